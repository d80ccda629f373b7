use Rattle.std.proofs.Common.{◌≡◌, ℕ, ◌++◌, [], ◌∷◌, List, map, refl, subst}
use Rattle.stack_text.proofs.Loops.{drop-item}
use Rattle.gypsy_syntax.{specs.Programs.{Program, Arg, Var, Lit}, specs.ProgramFits.Each}
use Rattle.gypsy_space.{specs.declared.program.Argument.Argument, specs.Nodes.{seen_arg, seen_program}}
use Rattle.gypsy_codegen.{specs.Generated.push_args, specs.Internal.Views.{ArgHasWord, code_in}, specs.declared.context.Context.Context}
use Rattle.gypsy_codegen.proofs.WriteLaws.{more_next}
use Rattle.gypsy_codegen.proofs.apply.push_args.Goals as goal

one_more : (context : Context) (q : Program) (p : ℕ) (a : Arg) (args : List Arg) →
    code_in context (push_args q p (a ∷ args)) ≡ code_in context (push_args q p (a ∷ [])) ++ code_in context (push_args q p args)
one_more context q p (Var b) args = refl
one_more context q p (Lit v) args = refl

pub loop-arg-preserved : goal.loop-arg-preserved
loop-arg-preserved g c =
    let context = c.args.context.now in
    let q = seen_program context.program.now in
    let p = context.procedure in
    let xs : List Argument = c.args.args.now in
    let k = c.loop-arg.arg-index in
    let lt = c.loop-arg-test.true in
    let x = c.arg-item.result in
    let P : List Argument → Type 0 = λ ys. Each (ArgHasWord q p) (map seen_arg ys) in
    record {
      words = (subst P (drop-item xs k x lt c.arg-item.is) c.loop-arg.invariant.words).1;
      lines = more_next (λ (ys : List Argument). code_in context (push_args q p (map seen_arg ys))) xs k x
          (code_in context (push_args q p (seen_arg x ∷ []))) _ _ _ lt c.arg-item.is
          (one_more context q p (seen_arg x) _) c.in_ok-push_arg.ensures c.loop-arg.invariant.lines;
    }
