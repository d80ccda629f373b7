use Rattle.std.proofs.Common.{refl}
use Rattle.fm_asm.{specs.Printing.word_line, proofs.LoopLaws.{pieces_at, fit_next, all_pieces, all_fit}}
use Rattle.fm_asm.proofs.printing.push_words.Goals as goal

pub loop-word-init : goal.loop-word-init
loop-word-init g c = record { so_far = refl; fit = refl }

pub loop-word-preserved : goal.loop-word-preserved
loop-word-preserved g c = record {
  so_far = pieces_at word_line c.args.words.now c.loop-word.word-index _ _ _ _ c.loop-word-test.true c.in_ok-push_word.ensures.line
      c.loop-word.invariant.so_far;
  fit = fit_next c.args.words.now c.loop-word.word-index _ c.loop-word-test.true c.push_word.ensures.fits c.loop-word.invariant.fit;
}

pub returns-clause-lines : goal.returns-clause-lines
returns-clause-lines g c = all_pieces word_line c.args.words.now c.loop-word.word-index _ _ c.loop-word-test.false c.loop-word.invariant.so_far

pub returns-clause-fit : goal.returns-clause-fit
returns-clause-fit g c = all_fit c.args.words.now c.loop-word.word-index c.loop-word-test.false c.loop-word.invariant.fit
