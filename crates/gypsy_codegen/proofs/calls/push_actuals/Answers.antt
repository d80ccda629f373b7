use Rattle.std.{proofs.Common.{◌≡◌, ℕ, [], ◌∷◌, List, get_or, refl, subst}, proofs.lemmas.List.get_or_default}
use Rattle.stack_text.proofs.Loops.{drop-item}
use Rattle.piton_check.specs.Instruction as i
use Rattle.gypsy_syntax.specs.ProgramFits.{Each}
use Rattle.gypsy_space.specs.Nodes.{seen_program}
use Rattle.gypsy_codegen.{specs.Generated.{offset, push_actuals}, specs.Internal.Views.{HasWord, code_in}, proofs.WriteLaws.more_next}
use Rattle.gypsy_codegen.proofs.calls.push_actuals.Goals as goal

pub loop-actual-preserved : goal.loop-actual-preserved
loop-actual-preserved g c =
    let context = c.args.context.now in
    let q = seen_program context.program.now in
    let p = context.procedure in
    let xs : List ℕ = c.args.actuals.now in
    let k = c.loop-actual.actual-index in
    let lt = c.loop-actual-test.true in
    let x : ℕ = get_or xs k 0 in
    let here : x ≡ get_or xs k x = get_or_default xs k 0 x lt in
    let P : List ℕ → Type 0 = Each (HasWord q p) in
    record {
      words = (subst P (drop-item xs k x lt here) c.loop-actual.invariant.words).1;
      lines = more_next (λ (ys : List ℕ). code_in context (push_actuals q p ys)) xs k x (code_in context (i.PushLocal (offset q p x) ∷ [])) _ _ _ lt
          here refl c.in_ok-push_local.ensures c.loop-actual.invariant.lines;
    }
