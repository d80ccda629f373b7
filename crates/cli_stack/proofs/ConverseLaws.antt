-- What a session that is asked line by line has printed if memory ran out.
use Rattle.std.proofs.Common.{◌≡◌, inl, inr, ⊎_elim, ℕ, List, Option}
use Rattle.level_debuggers.specs.Walks.{SessionOf}
use Rattle.stack_commands.{specs.Conversed.{LineActs, PartlyConversed}, specs.declared.talking.TalkFault.TalkFault}
use Rattle.stack_commands.specs.declared.talking.TalkFault.TheVariants as fault

module _ {L K : Type 0} (acts : LineActs L K) (lines_before lines_after : L) (overruns_before overruns_after : ℕ) (put : K → List ℕ → K)
    (before : K) (taken_before taken_after : Option (List ℕ)) (first : SessionOf) (f : TalkFault)
    (part : PartlyConversed acts lines_before lines_after overruns_before overruns_after (f ≡ fault.Sink) (f ≡ fault.Lines)
    put before taken_before taken_after first) where
  abbrev pub Partly : Type 0 → Type 0 → Type 0
  Partly whole unread = PartlyConversed acts lines_before lines_after overruns_before overruns_after whole unread
      put before taken_before taken_after first

  -- where memory ran out, it is not said that all was printed
  pub at_memory : f ≡ fault.Memory → Partly ⊥ ⊥
  at_memory is = record {
    lines = part.lines;
    goes = part.goes;
    printed = ⊎_elim (λ a. inl (((λ x. absurd x), (λ x. absurd x)), (λ x. absurd x), a.2)) (λ b. inr ((λ x. absurd x), b.1, b.2, b.3)) part.printed;
  }
