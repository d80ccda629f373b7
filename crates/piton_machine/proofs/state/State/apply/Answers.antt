use Rattle.std.proofs.Common.{◌∙◌, ◌≡◌, ◌≤◌, ◌-◌, ◌+◌, length, drop, arith, sym, length-drop}
use Rattle.piton_semantics.{specs.InstructionRows.results_on, specs.Views.words_taken, proofs.ViewLaws.lifted_is, proofs.ResultLaws.words_pushed}
use Rattle.piton_semantics.proofs.ResultLaws.{results_count, pushes_no_more, pushes_one_more}
use Rattle.piton_machine.proofs.state.State.apply.Goals as goal
use Rattle.piton_machine.proofs.state.State.apply.Goals.{else-does_grow-via-then-does_grow+else-len-room, else-does_grow-via-else-does_grow}

pub replace_by-requires-clause-fits : goal.replace_by-requires-clause-fits
replace_by-requires-clause-fits c =
    let o = c.args.op in
    let out = c.in_ok-outcome.outcome in
    let words = c.self.inside.stack.words in
    let below = drop c.words_taken-taken.result words in
    let row = lifted_is _ out (sym c.in_ok-outcome.ensures) in
    let count : length (results_on out below) ≡ words_pushed o + length below = results_count below _ out o _ _ _ row in
    let taken : c.words_taken-taken.result ≡ words_taken o = c.words_taken-taken.ensures.taken in
    let there : c.words_taken-taken.result ≤ length words = c.in_ok-words.ensures.some in
    let size : length below ≡ length words - c.words_taken-taken.result = length-drop c.words_taken-taken.result words in
    elim c.else-does_grow.branch [
      | else-does_grow-via-then-does_grow+else-len-room w ↦
          omega (arith, count, taken, there, size, pushes_one_more o, w.if-len-room.false, w.room.ensures.room, c.len-len.ensures.len)
      | else-does_grow-via-else-does_grow w ↦
          omega (arith, count, taken, there, size, pushes_no_more o (sym c.does_grow.ensures ∙ w.if-does_grow.false), c.len-len.ensures.fits)
    ]
