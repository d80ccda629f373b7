use Rattle.std.proofs.Common.{◌≡◌, ℕ, List, None, Option, bytes_eq, rules, sym, ap, ◌∙◌}
use Rattle.stack_text.specs.Options.{first_or}
use Rattle.name_tables.specs.Entries.{look_up}
use Rattle.gypsy_check.proofs.LookupLaws.{place_nil}
use Rattle.gypsy_space.proofs.CalleeLaws.{place_next}
use Rattle.gypsy_space.proofs.callees.positions_of.Goals as goal

pub loop-index-init : goal.loop-index-init
loop-index-init g c = λ name.
    let none : look_up c.new-positions.result name ≡ None = search rules in none ∙ sym (place_nil name)

pub loop-index-preserved : goal.loop-index-preserved
loop-index-preserved g c = λ other.
    let i = c.loop-index.index in
    let one = c.index-procs-index.result in
    c.in_ok-enter.ensures.entered other
    ∙ ap (λ (text : List ℕ). first_or (look_up c.loop-index.positions other) (bytes_eq other text) i) c.bytes.ensures.bytes
    ∙ ap (λ (o : Option ℕ). first_or o (bytes_eq other one.name.name) i) (c.loop-index.invariant other)
    ∙ sym (place_next c.args.procs.now i one other c.loop-index-test.true c.index-procs-index.is)
