use Rattle.std.{proofs.Common.{◌≡◌, ◌++◌, map}, specs.Option.option_copied}
use Rattle.debug_script.{specs.Commands.{words_left, words_of}, proofs.WordLaws.left_measure}
use Rattle.debug_script.proofs.line.words_of.Given as goal

-- the words so far and those of what is left are all
abbrev pub invariant-loop-left : goal.invariant-loop-left
invariant-loop-left g l = map (λ word. word.now) l.words.items ++ words_left (option_copied l.left) ≡ words_of l.fn.line

abbrev pub decreases-loop-left : goal.decreases-loop-left
decreases-loop-left g l = left_measure l.left
