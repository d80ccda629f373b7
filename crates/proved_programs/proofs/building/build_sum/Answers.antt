use Rattle.std.{proofs.Common.{ℕ, ◌≤◌, ◌^◌, List, length, sym, subst}, proofs.lemmas.Result.IfOk-weaker}
use Rattle.stack_build.specs.Build.{BuildsText}
use Rattle.proved_programs.{specs.Sum.SumsUp, proofs.SumLaws.sum_built, proofs.TextLaws.sum_short}
use Rattle.proved_programs.proofs.building.build_sum.Goals as goal

pub build-requires-clause-text : goal.build-requires-clause-text
build-requires-clause-text c = subst (λ (t : List ℕ). length t ≤ 2 ^ 31) (sym c.requires.text.is) sum_short

pub returns : goal.returns
returns c =
    IfOk-weaker c.build.result (BuildsText c.args.text.now c.args.ctrl c.args.temp) (λ built. SumsUp built.image)
    (λ built builds. sum_built c.args.ctrl c.args.temp built (subst (λ (t : List ℕ). BuildsText t c.args.ctrl c.args.temp built) c.requires.text.is builds))
    c.build.ensures.implements
