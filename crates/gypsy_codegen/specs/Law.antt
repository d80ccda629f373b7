-- One step of the step machine is so many steps of the generated system.
use Rattle.std.specs.Prelude.{◌≡◌, ℕ, ◌≤◌, List, [], ◌∷◌, ◌++◌, reverse}
use Rattle.stack_text.specs.{SharedLimits.{most_stack}, Values.{ValueOf}}
use Rattle.piton_words.specs.{declared.word.Word.{Word}, declared.word.Word.TheVariants.{Nat}}
use Rattle.piton_check.specs.Instruction.{SystemView}
use Rattle.piton_semantics.specs.{State.{PitonState}, Law.{Steps}}
use Rattle.gypsy_syntax.specs.{Programs.{Program}, ProgramFits.{ProgramFits}}
use Rattle.gypsy_space.specs.{Costs.{Tally, spend}, Needs.{StackSizes}}
use Rattle.gypsy_semantics.specs.{Calls.{CurrentCondition}, Machine.{State, At, Move, Next, Ended, gypsy_step}, Kept.{StateFits}}
use Rattle.gypsy_semantics.specs.Room.{StateRoom}
use Rattle.gypsy_codegen.specs.{WordsOf.{words_of_values, number_of_way}, Generated.{generated_view}, Showing.{StandsAs}}

abbrev pub tally_of : State → Tally
tally_of (At p x w fs t) = t

-- so many steps as the tallies tell lead to a state that reads as this one
pub record Leads (q : Program) (s : SystemView) (a : PitonState) (t : Tally) (g : State) : Type 0 where
  pub steps : ℕ
  pub cost : ℕ
  pub to : PitonState
  pub runs : Steps s steps cost a to
  pub tally : tally_of g ≡ spend cost steps t
  pub shows : StandsAs q to g

-- so many steps lead to a state that has halted, with the condition in c-c and the words of main's formals on the stack's bottom
pub record Halts (s : SystemView) (a : PitonState) (t : Tally) (x : List ValueOf) (c : CurrentCondition) (u : Tally) : Type 0 where
  pub steps : ℕ
  pub cost : ℕ
  pub to : PitonState
  pub runs : Steps s steps cost a to
  pub tally : u ≡ spend cost steps t
  pub halted : to.frames ≡ []
  pub condition : to.areas ≡ (Nat (number_of_way c) ∷ []) ∷ []
  pub locals : List Word
  pub stack : to.stack ≡ reverse (words_of_values x ++ locals)

abbrev pub Follows : Program → SystemView → PitonState → Tally → Move → Type 0
Follows q s a t (Next g) = Leads q s a t g
Follows q s a t (Ended x c u) = Halts s a t x c u

-- each step of a program that fits
abbrev pub StepsFollow : Type 0
StepsFollow = (q : Program) (sizes : StackSizes) (base : ℕ) (a : PitonState) (g : State) → ProgramFits q → sizes.temp ≤ most_stack →
    StateFits q g → StateRoom q sizes g → StandsAs q a g → Follows q (generated_view q sizes base) a (tally_of g) (gypsy_step q sizes g)
