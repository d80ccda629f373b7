use Rattle.std.proofs.Common.{◌≡◌, ◌-◌}
use Rattle.gypsy_syntax.specs.Views.SourceView.{source_of}
use Rattle.gypsy_meaning.{specs.Views.Belongs.BelongsTo, specs.Views.Running.seen}
use Rattle.gypsy_semantics.specs.Views.RunView.{after, meaning_run}
use Rattle.gypsy_meaning.proofs.running.Meaning.make_steps.Given as goal

abbrev pub invariant-loop-made : goal.invariant-loop-made
invariant-loop-made g l =
    (meaning_run (l.limit - l._made) (seen l.self) ≡ meaning_run l.limit (seen l.fn.self)) ×
    (seen l.self ≡ after l._made (seen l.fn.self)) ×
    BelongsTo (source_of l.accepted) l.needs.procedures.items l.self
