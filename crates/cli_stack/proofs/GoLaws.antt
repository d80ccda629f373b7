-- Where `go` ends well, it ran the image of its source on values that fit.
use Rattle.std.{proofs.Common.{◌≡◌, ◌≤◌, ℕ, List, Option, Result, Ok, Err, IfOk, length, refl, sym, ◌∙◌, subst, arith}, specs.Prelude.◌^◌}
use Rattle.stack_text.specs.Values.{ValueOf}
use Rattle.fm_loader.specs.Values.{values_in}
use Rattle.gypsy_syntax.specs.Sources.{SourceOf}
use Rattle.gypsy_space.specs.Needs.{StackSizes}
use Rattle.stack_build.{specs.declared.fault.BuildFault.BuildFault, specs.Build.{BuiltOf, Builds, BuildsText, built, accepted_source}}
use Rattle.stack_build.{specs.Implements.FitsFormals, specs.Joined.{BuiltImplements, BuiltTakesValues}}
use Rattle.stack_build.specs.declared.fault.BuildFault.TheVariants as fault
use Rattle.command_line.{specs.declared.early_end.EarlyEnd.EarlyEnd, specs.declared.status.Status.TheVariants.Done, specs.Ends.end_status}
use Rattle.command_line.specs.declared.early_end.EarlyEnd.TheVariants as early
use Rattle.command_replies.{specs.Replies.status_of, specs.Commands.Run.{run_reply, values_reply}}
use Rattle.stack_commands.{specs.Commands.SourceText.build_verdict, specs.Commands.Go.go_reply}
use Rattle.cli_stack.specs.Answer.{Answer, answer_with}

pub early_done : (e : EarlyEnd) → end_status e ≡ Done → ⊥
early_done (early.Missing name) h = cc
early_done (early.TooLong limit) h = cc
early_done (early.ShelfFault name) h = cc
early_done early.OutOfMemory h = cc

pub build_done : (f : BuildFault) → status_of (build_verdict f) ≡ Done → ⊥
build_done (fault.Text rule place) h = cc
build_done (fault.Form rule place) h = cc
build_done (fault.Rule rule place) h = cc
build_done fault.Size h = cc
build_done (fault.Control need) h = cc
build_done (fault.Temporary need) h = cc
build_done (fault.Words count) h = cc
build_done fault.Memory h = cc

-- what holds of the answer where the run's reply is that all went well, holds of the answer of `go`
module _ (implement : BuiltImplements) (take : BuiltTakesValues) (text : List ℕ) (short : length text ≤ 2 ^ 31) (source : SourceOf)
    (read : accepted_source text ≡ Ok source) (sizes : StackSizes)
    (T : Answer → Type 0) (values_text : List ℕ) (budget : ℕ) (output : Option (List ℕ × List ℕ))
    (ran : (b : BuiltOf) (values : List ValueOf) → Builds source sizes b → values_in b.image.slots values_text ≡ Ok values → FitsFormals source values
    → status_of (run_reply b.image values budget).verdict ≡ Done → T (answer_with output (run_reply b.image values budget))) where
  by_built : (found : Result BuiltOf BuildFault) → built text sizes.ctrl sizes.temp 0 ≡ found → IfOk found (BuildsText text sizes.ctrl sizes.temp)
      → status_of (go_reply found values_text budget).verdict ≡ Done
      → T (answer_with output (go_reply found values_text budget))
  by_built (Err f) is builds done = absurd (build_done f done)
  by_built (Ok b) is builds done = by_values (values_in b.image.slots values_text) refl done
    where
      by_values : (found : Result (List ValueOf) (ℕ × ℕ)) → values_in b.image.slots values_text ≡ found
          → status_of (values_reply b.image budget found).verdict ≡ Done → T (answer_with output (values_reply b.image budget found))
      by_values (Err f) gives done = absurd cc
      by_values (Ok values) gives done =
          let same_read : Ok builds.source ≡ Ok source = sym builds.read ∙ read in
          let same : builds.source ≡ source = cc in
          ran b values (subst (λ (s : SourceOf). Builds s sizes b) same builds.builds) gives
          (take text sizes.ctrl sizes.temp 0 source b values_text values short (omega arith) read is gives) done

  pub go_done : status_of (go_reply (built text sizes.ctrl sizes.temp 0) values_text budget).verdict ≡ Done
      → T (answer_with output (go_reply (built text sizes.ctrl sizes.temp 0) values_text budget))
  go_done = by_built (built text sizes.ctrl sizes.temp 0) refl (implement text sizes.ctrl sizes.temp 0 short (omega arith))
