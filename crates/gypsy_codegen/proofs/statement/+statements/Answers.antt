use Rattle.std.proofs.Common.{rules, ◌≡◌, ◌+◌, ◌++◌, ◌∷◌, [], List, map, None, ap, sym, ◌∙◌}
use Rattle.piton_words.specs.declared.word.Word.TheVariants.{Nat}
use Rattle.piton_syntax.specs.declared.test_kind.TestFamily.TheVariants as family
use Rattle.piton_syntax.specs.declared.test_kind.TestKind.TheVariants as test
use Rattle.piton_check.specs.Instruction as i
use Rattle.gypsy_syntax.specs.Programs.{If, Begin}
use Rattle.gypsy_codegen.{specs.Generated.{InLoop, InBegin, offset}, specs.WordsOf.number_of_way, proofs.CodeLaws.both_are, specs.Lines.{labels, lines}}
use Rattle.gypsy_codegen.{specs.Internal.Views.{env, names_of}, specs.Written.{Line, Plain, Marked}}
use Rattle.gypsy_space.{specs.Nodes.{seen_cond, seen_program, seen_statement, seen_statements}, specs.declared.program.Node.the_lemmas}
use Rattle.gypsy_space.proofs.NodeLaws.{seen_statement-seq}
use Rattle.gypsy_codegen.proofs.statement.+statements.Goals as goal

pub statement-parts-requires : goal.statement-parts-requires
statement-parts-requires g t c =
    let k : seen_statement c.args.node.now.value ≡ seen_statements c.in-Seq.nodes.value.items =
    ap seen_statement (sym c.deref.ensures ∙ c.in-Seq.is) ∙ seen_statement-seq c.in-Seq.nodes in
    λ κs lives. (search (rules, the_lemmas), (lives, (c.requires.ready, (rw k at c.requires.names, rw k at c.requires.labels))))

pub statement-returns-in_ok-next-in-Seq-clause-lines : goal.statement-returns-in_ok-next-in-Seq-clause-lines
statement-returns-in_ok-next-in-Seq-clause-lines g t c =
    let k : seen_statement c.args.node.now.value ≡ seen_statements c.in-Seq.nodes.value.items =
    ap seen_statement (sym c.deref.ensures ∙ c.in-Seq.is) ∙ seen_statement-seq c.in-Seq.nodes in
    rw k c.in_ok-next-in-Seq.ensures.lines

pub statement-returns-in_ok-next-in-Seq-clause-next : goal.statement-returns-in_ok-next-in-Seq-clause-next
statement-returns-in_ok-next-in-Seq-clause-next g t c =
    let k : seen_statement c.args.node.now.value ≡ seen_statements c.in-Seq.nodes.value.items =
    ap seen_statement (sym c.deref.ensures ∙ c.in-Seq.is) ∙ seen_statement-seq c.in-Seq.nodes in
    rw k c.in_ok-next-in-Seq.ensures.next

pub statement-returns-in_ok-next-in-If-clause-lines : goal.statement-returns-in_ok-next-in-If-clause-lines
statement-returns-in_ok-next-in-If-clause-lines g t c =
    let context = c.args.context.now in
    let q = seen_program context.program.now in
    let p = context.procedure in
    let n = names_of context in
    let scopes = env c.args.scopes.now in
    let l = c.args.first in
    let yes = seen_statement c.in-If.yes.value in
    let no = seen_statement c.in-If.no.value in
    let k : seen_statement c.args.node.now.value ≡ If c.in-If.field-0 c.in-If.variable yes no = ap seen_statement (sym c.deref.ensures ∙ c.in-If.is) in
    let first_part = c.in_ok-behind-in-If.ensures.lines in
    let second_part = rw c.in_ok-behind-in-If.ensures.next at c.in_ok-next-in-If.ensures.lines in
    let end : List Line = Marked (l + 1) i.NoOp ∷ [] in
    let otherwise : List Line = lines q p scopes (l + 2 + labels yes) no ++ end in
    let between : List Line = Plain (i.Jump (l + 1)) ∷ Marked l i.NoOp ∷ otherwise in
    rw k
    (both_are n (Plain (i.PushLocal (offset q p c.in-If.variable)) ∷ Plain i.FetchTempStk ∷ Plain (i.TestAndJump family.Bool test.F l) ∷ [])
    (lines q p scopes (l + 2) yes ++ between) _ _ _ c.in_ok-branch-in-If.ensures
    (both_are n (lines q p scopes (l + 2) yes) between _ _ _ first_part
    (both_are n (Plain (i.Jump (l + 1)) ∷ Marked l i.NoOp ∷ []) otherwise _ _ _ c.in_ok-jump_over-in-If.ensures second_part)))

pub repetition-returns-clause-lines : goal.repetition-returns-clause-lines
repetition-returns-clause-lines g t c =
    let context = c.args.context.now in
    let q = seen_program context.program.now in
    let p = context.procedure in
    let n = names_of context in
    let l = c.args.first in
    let body = seen_statement c.args.body.now.value in
    let inside : List Line = lines q p (InLoop (l + 1) ∷ env c.args.scopes.now) (l + 2) body in
    let end : List Line = Plain (i.Jump l) ∷ Marked (l + 1) (i.PushConstant (Nat (number_of_way None))) ∷ Plain (i.PopGlobal 0) ∷ [] in
    both_are n (Marked l i.NoOp ∷ []) (inside ++ end) _ _ _ c.in_ok-plain.ensures
    (both_are n inside end _ _ _ c.in_ok-next.ensures.lines c.in_ok-jump_to_normal.ensures)

pub second-returns-clause-lines : goal.second-returns-clause-lines
second-returns-clause-lines g t c =
    let context = c.args.context.now in
    let code = lines (seen_program context.program.now) context.procedure (env c.args.scopes.now) c.args.first (seen_statement c.args.node.now.value) in
    both_are (names_of context) code (Marked c.args.label i.NoOp ∷ []) _ _ _ c.in_ok-next.ensures.lines c.in_ok-plain.ensures

pub statement-returns-in_ok-next-in-Begin-clause-lines : goal.statement-returns-in_ok-next-in-Begin-clause-lines
statement-returns-in_ok-next-in-Begin-clause-lines g t c =
    let context = c.args.context.now in
    let q = seen_program context.program.now in
    let p = context.procedure in
    let n = names_of context in
    let scopes = env c.args.scopes.now in
    let l = c.args.first in
    let body = seen_statement c.in-Begin.body.value in
    let arm = seen_statement c.in-Begin.arm.value in
    let conds = c.in-Begin.conds.value.items in
    let k : seen_statement c.args.node.now.value ≡ Begin c.in-Begin.field-0 body (map seen_cond conds) arm =
    ap seen_statement (sym c.deref.ensures ∙ c.in-Begin.is) in
    let first_part = c.in_ok-behind-in-Begin.ensures.lines in
    let second_part = rw c.in_ok-behind-in-Begin.ensures.next at c.in_ok-next-in-Begin.ensures.lines in
    let inside : List Line = lines q p (InBegin (map seen_cond conds) l ∷ scopes) (l + 2) body in
    let between : List Line = Plain (i.Jump (l + 1)) ∷ Marked l (i.PushConstant (Nat (number_of_way None))) ∷ Plain (i.PopGlobal 0) ∷ [] in
    let handler : List Line = lines q p scopes (l + 2 + labels body) arm ++ Marked (l + 1) i.NoOp ∷ [] in
    rw k (both_are n inside (between ++ handler) _ _ _ first_part (both_are n between handler _ _ _ c.in_ok-jump_to_normal-in-Begin.ensures second_part))
