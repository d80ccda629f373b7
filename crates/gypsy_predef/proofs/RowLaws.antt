-- The rows: each body is followed by computation, and gives what its row says.
use Rattle.std.proofs.Common.{◌≡◌, ℕ, suc, ◌+◌, ◌-◌, ◌≤◌, ◌<◌, ◌^◌, ℤ, pos, negsuc, ◌+ℤ◌, ◌-ℤ◌, ◌*ℤ◌, neg_ℤ, int_le, int_lt, not, ◌||◌, ◌&&◌, Some, Ok, Bool}
use Rattle.std.proofs.Common.{true, false, List, [], ◌∷◌, ◌++◌, length, length-append, map, take, drop, reverse, refl, ap, sym, ◌∙◌, subst, arith}
use Rattle.std.{specs.Prelude.{slice_get, slice_set, nat_lt, get_or, if◌then◌else◌}, proofs.lemmas.Bool.{lt-ltb, ltb-true, not-true, not-false}}
use Rattle.std.proofs.lemmas.List.{map-set, length-map}
use Rattle.gypsy_syntax.{specs.Programs.simple, specs.declared.slot.Form.Form, specs.declared.slot.Form.TheVariants.{Simple, Array, Literal}}
use Rattle.gypsy_syntax.{specs.declared.predef.Predef.Predef, specs.Predefined.{slots_of, shared, integer_slot, boolean_slot, predef_effect, predef_cost}}
use Rattle.gypsy_syntax.{specs.Predefined.{predef_temp, predef_ctrl, predef_number}, specs.Effects.{Effect, Normal, Fault, Beyond, item_of_value, truth_value}}
use Rattle.gypsy_syntax.{specs.Effects.{integer_value, are_same, is_true_value, number_effect, indexed}, specs.Ranges.is_in_range, proofs.RangeLaws.simple_item}
use Rattle.stack_text.{specs.declared.shape.Kind.Kind, specs.declared.shape.Kind.TheVariants.{Integer, Boolean}, specs.Values.{ValueOf, item_count}}
use Rattle.piton_words.{specs.declared.word.Word.Word, specs.declared.outcome.Outcome.TheVariants.One, specs.declared.word.Word.TheVariants.{Int, Nat}}
use Rattle.piton_words.specs.declared.word.Word.TheVariants.{Bool as Truth}
use Rattle.piton_words.specs.declared.op.WordOp.TheVariants as op
use Rattle.piton_words.specs.OperationRows as words
use Rattle.fm_words.specs.Word.{are_same_ints}
use Rattle.piton_check.specs.Instruction.{ProgramView, SystemView, Call}
use Rattle.piton_semantics.{specs.State.{Frame, PitonState, instruction_at, ctrl_used, with_element}, specs.Views.is_negative, specs.Law.Steps}
use Rattle.gypsy_syntax.specs.declared.predef.Predef.TheVariants as row
use Rattle.gypsy_syntax.specs.Effects as effects
use Rattle.gypsy_predef.{specs.Bodies.body_of, specs.Runs.{word_of_item, words_of_value, with_elements, Argument, values_of, ArgumentFits, ArgumentsFit}}
use Rattle.gypsy_predef.specs.Runs.{with_arguments, after_call, called_count, called_steps, Runs, PredefRuns, CountsAdd, WordsWritten}
use Rattle.gypsy_predef.{proofs.RunningLaws.{Called, program_is, calls}, proofs.FollowLaws.{Follows, follow}, proofs.StackLaws.{element_there, written_one}}
use Rattle.gypsy_predef.{proofs.StackLaws.{written_length, written_word, written_other}, proofs.NumberLaws.{eq_row, not_less, same_range, minus_range}}
use Rattle.gypsy_predef.proofs.NumberLaws.{minus_row, add_row, subtract_row, truth_test, false_test, negative_test, to_nat_row, add_nat_row}
use Rattle.gypsy_predef.{proofs.ProductLaws.kept_is, proofs.MultiplyLaws.{product_fits, product_overflows}, proofs.ValueLaws.{simple_words, simple_argument}}
use Rattle.gypsy_predef.proofs.ValueLaws.{literal_word, array_word, truth_words, for_two, for_three}

take_all_of : (words stack : List Word) → take (length words) (words ++ stack) ≡ words
take_all_of [] stack = refl
take_all_of (w ∷ words) stack = ap (λ ws. w ∷ ws) (take_all_of words stack)

drop_all_of : (words stack : List Word) → drop (length words) (words ++ stack) ≡ stack
drop_all_of [] stack = refl
drop_all_of (w ∷ words) stack = drop_all_of words stack

module _ (s : SystemView) (program caller place : ℕ) (f : Frame) (fs : List Frame) (stack : List Word) (areas : List (List Word)) (k : Kind)
    (small : s.temp ≤ 2 ^ 16) (at : instruction_at s caller place ≡ Some (Call program)) where
  -- at the call, with these words on the stack
  abbrev from : List Word → PitonState
  from words = record { program = caller; place = place; frames = f ∷ fs; stack = words; areas = areas }

  abbrev after : List Word → PitonState
  after words = record { program = caller; place = place + 1; frames = f ∷ fs; stack = words; areas = areas }

  -- a body that is called here
  abbrev called : (body : ProgramView) → slice_get s.programs program ≡ Some body → Called
  called body found =
      record { s = s; program = program; body = body; is = program_is s program body found; caller = caller; place = place; f = f; fs = fs }

  -- a row's program in the system, with room on both stacks
  record Ready (r : Predef) : Type 0 where
    found : slice_get s.programs program ≡ Some (body_of r)
    temp : length stack + predef_temp r ≤ s.temp
    ctrl : ctrl_used (f ∷ fs) + predef_ctrl r ≤ s.ctrl

  abbrev Fits : Form → Kind → Argument → Type 0
  Fits form kind a = ArgumentFits stack form kind a

  -- the call of a row leads to this effect
  abbrev Does : Predef → List Argument → Effect → Type 0
  Does r args e = Runs s r args stack (from (with_arguments r args stack)) e

  -- what the body of a row asks until it has led there
  abbrev Body : (r : Predef) → Ready r → List Argument → Effect → Type 0
  Body r ready args e =
      Follows (called (body_of r) ready.found) (predef_temp r) (called_steps r e - 1) (called_count r e) (after_call (from stack) stack args e) 0
      (reverse (with_arguments r args []) ++ (body_of r).temporaries) [] stack areas (4 + ((body_of r).formals + length (body_of r).temporaries))

  -- what computes of a row and its arguments
  abbrev Takes : Predef → List Argument → Effect → Type 0
  Takes r args e =
      ((body_of r).formals ≡ length (with_arguments r args [])) × (predef_ctrl r ≡ 2 + ((body_of r).formals + length (body_of r).temporaries)) ×
      (suc (called_steps r e - 1) ≡ called_steps r e)

  does : (r : Predef) (ready : Ready r) (args : List Argument) (e : Effect) → Takes r args e → Body r ready args e →
      Runs s r args stack (from (with_arguments r args [] ++ stack)) (e)
  does r ready args e takes body =
      let words = with_arguments r args [] in
      let view = body_of r in
      let here = called view ready.found in
      let size : length (words ++ stack) ≡ length words + length stack = length-append words stack in
      let end = after_call (from stack) stack args e in
      let went = follow here (predef_temp r) (called_steps r e - 1) (called_count r e) end 0 (reverse words ++ view.temporaries) [] stack areas
      (4 + (view.formals + length view.temporaries)) ready.temp body in
      let front : take view.formals (words ++ stack) ≡ words = ap (λ n. take n (words ++ stack)) takes.0 ∙ take_all_of words stack in
      let rest : drop view.formals (words ++ stack) ≡ stack = ap (λ n. drop n (words ++ stack)) takes.0 ∙ drop_all_of words stack in
      let enough : view.formals ≤ length (words ++ stack) = omega (arith, takes.0, size) in
      let ctrl : ctrl_used (f ∷ fs) + (2 + (view.formals + length view.temporaries)) ≤ s.ctrl = omega (arith, ready.ctrl, takes.1) in
      let start = from (words ++ stack) in
      let run : Steps s (suc (called_steps r e - 1)) (4 + (view.formals + length view.temporaries) + went.took) start end =
      calls here ready.found (words ++ stack) areas at enough ctrl (rw (front, rest) went.steps) in
      subst (λ j. Steps s j (called_count r e) start end) takes.2 (subst (λ n. Steps s (suc (called_steps r e - 1)) n start end) went.sum run)

  -- a value of one word was written
  ends : (index : ℕ) (w : Word) (v : ValueOf) → words_of_value v ≡ w ∷ [] →
      after (with_element stack index w) ≡ after (with_elements stack index (words_of_value v))
  ends index w v e = ap (λ words. after (with_elements stack index words)) (sym e)

  assigns_variable : (a b : Argument) → Ready row.MgSimpleVariableAssignment → Fits Simple k a → Fits Simple k b →
      Does row.MgSimpleVariableAssignment (a ∷ b ∷ []) (Normal b.value)
  unfolding predef_cost
  assigns_variable a b ready fa fb =
      let d = simple_argument stack k a fa in
      let x = simple_argument stack k b fb in
      does row.MgSimpleVariableAssignment ready (a ∷ b ∷ []) (Normal b.value) (refl, refl, refl)
      (_, x.word, (d.low, (refl, ends a.index _ b.value x.words)))

  assigns_constant : (a b : Argument) → Ready row.MgSimpleConstantAssignment → Fits Simple k a → Fits Literal k b →
      Does row.MgSimpleConstantAssignment (a ∷ b ∷ []) (Normal b.value)
  unfolding predef_cost
  assigns_constant a b ready fa fb =
      let d = simple_argument stack k a fa in
      let w = word_of_item b.value.shape.kind (item_of_value b.value) in
      let e : words_of_value b.value ≡ w ∷ [] = simple_words k b.value fb.0 fb.1 ∙ ap (λ w. w ∷ []) (sym (literal_word k b.value fb.0)) in
      does row.MgSimpleConstantAssignment ready (a ∷ b ∷ []) (Normal b.value) (refl, refl, refl) (d.low, (refl, ends a.index w b.value e))

  equals : (a b c : Argument) → Ready row.MgSimpleVariableEq → Fits Simple Boolean a → Fits Simple k b → Fits Simple k c →
      Does row.MgSimpleVariableEq (a ∷ b ∷ c ∷ []) (Normal (truth_value (are_same b.value c.value)))
  unfolding predef_cost
  equals a b c ready fa fb fc =
      let d = simple_argument stack Boolean a fa in
      let x = simple_argument stack k b fb in
      let y = simple_argument stack k c fc in
      let same = are_same b.value c.value in
      let v = word_of_item k (item_of_value c.value) in
      let result = eq_row k (item_of_value b.value) (item_of_value c.value) v (map length areas) x.range y.range in
      does row.MgSimpleVariableEq ready (a ∷ b ∷ c ∷ []) (Normal (truth_value same)) (refl, refl, refl)
      (_, x.word, (_, y.word, (One (Truth same), result, (d.low, (refl, ends a.index _ (truth_value same) (truth_words same))))))

  equals_constant : (a b c : Argument) → Ready row.MgSimpleConstantEq → Fits Simple Boolean a → Fits Simple k b → Fits Literal k c →
      Does row.MgSimpleConstantEq (a ∷ b ∷ c ∷ []) (Normal (truth_value (are_same b.value c.value)))
  unfolding predef_cost
  equals_constant a b c ready fa fb fc =
      let d = simple_argument stack Boolean a fa in
      let x = simple_argument stack k b fb in
      let u = word_of_item k (item_of_value b.value) in
      let v = word_of_item c.value.shape.kind (item_of_value c.value) in
      let same = are_same b.value c.value in
      let result : words.row_of op.Eq v u v (map length areas) ≡ Ok (One (Truth same)) =
      ap (λ w. words.row_of op.Eq v u w (map length areas)) (literal_word k c.value fc.0)
      ∙ eq_row k (item_of_value b.value) (item_of_value c.value) v (map length areas) x.range (simple_item k c.value fc.0 fc.1) in
      does row.MgSimpleConstantEq ready (a ∷ b ∷ c ∷ []) (Normal (truth_value same)) (refl, refl, refl)
      (_, x.word, (One (Truth same), result, (d.low, (refl, ends a.index _ (truth_value same) (truth_words same)))))

  compares : (a b c : Argument) → Ready row.MgIntegerLe → Fits Simple Boolean a → Fits Simple Integer b → Fits Simple Integer c →
      Does row.MgIntegerLe (a ∷ b ∷ c ∷ []) (Normal (truth_value (int_le (item_of_value b.value) (item_of_value c.value))))
  unfolding predef_cost
  compares a b c ready fa fb fc =
      let d = simple_argument stack Boolean a fa in
      let x = simple_argument stack Integer b fb in
      let y = simple_argument stack Integer c fc in
      let le = int_le (item_of_value b.value) (item_of_value c.value) in
      let result = ap (λ b. Ok (One (Truth b))) (not_less (item_of_value b.value) (item_of_value c.value)) in
      does row.MgIntegerLe ready (a ∷ b ∷ c ∷ []) (Normal (truth_value le)) (refl, refl, refl)
      (_, y.word, (_, x.word, (_, refl, (One (Truth le), result, (d.low, (refl, ends a.index _ (truth_value le) (truth_words le)))))))

  ors : (a b c : Argument) → Ready row.MgBooleanOr → Fits Simple Boolean a → Fits Simple Boolean b → Fits Simple Boolean c →
      Does row.MgBooleanOr (a ∷ b ∷ c ∷ []) (Normal (truth_value (is_true_value b.value || is_true_value c.value)))
  unfolding predef_cost
  ors a b c ready fa fb fc =
      let d = simple_argument stack Boolean a fa in
      let x = simple_argument stack Boolean b fb in
      let y = simple_argument stack Boolean c fc in
      let t = is_true_value b.value || is_true_value c.value in
      does row.MgBooleanOr ready (a ∷ b ∷ c ∷ []) (Normal (truth_value t)) (refl, refl, refl)
      (_, x.word, (_, y.word, (_, refl, (d.low, (refl, ends a.index _ (truth_value t) (truth_words t))))))

  ands : (a b c : Argument) → Ready row.MgBooleanAnd → Fits Simple Boolean a → Fits Simple Boolean b → Fits Simple Boolean c →
      Does row.MgBooleanAnd (a ∷ b ∷ c ∷ []) (Normal (truth_value (is_true_value b.value && is_true_value c.value)))
  unfolding predef_cost
  ands a b c ready fa fb fc =
      let d = simple_argument stack Boolean a fa in
      let x = simple_argument stack Boolean b fb in
      let y = simple_argument stack Boolean c fc in
      let t = is_true_value b.value && is_true_value c.value in
      does row.MgBooleanAnd ready (a ∷ b ∷ c ∷ []) (Normal (truth_value t)) (refl, refl, refl)
      (_, x.word, (_, y.word, (_, refl, (d.low, (refl, ends a.index _ (truth_value t) (truth_words t))))))

  negates : (a b : Argument) → Ready row.MgBooleanNot → Fits Simple Boolean a → Fits Simple Boolean b →
      Does row.MgBooleanNot (a ∷ b ∷ []) (Normal (truth_value (not (is_true_value b.value))))
  unfolding predef_cost
  negates a b ready fa fb =
      let d = simple_argument stack Boolean a fa in
      let x = simple_argument stack Boolean b fb in
      let t = not (is_true_value b.value) in
      does row.MgBooleanNot ready (a ∷ b ∷ []) (Normal (truth_value t)) (refl, refl, refl)
      (_, x.word, (_, refl, (d.low, (refl, ends a.index _ (truth_value t) (truth_words t)))))

  minuses : (a b : Argument) → Ready row.MgIntegerUnaryMinus → Fits Simple Integer a → Fits Simple Integer b → (t : Bool) →
      is_in_range Integer (neg_ℤ (item_of_value b.value)) ≡ t →
      Does row.MgIntegerUnaryMinus (a ∷ b ∷ []) (if t then Normal (integer_value (neg_ℤ (item_of_value b.value))) else Fault)
  unfolding predef_cost
  minuses a b ready fa fb true h =
      let d = simple_argument stack Integer a fa in
      let x = simple_argument stack Integer b fb in
      let v = item_of_value b.value in
      let least : are_same_ints v (negsuc 2147483647) ≡ false = not-true (are_same_ints v (negsuc 2147483647)) (sym (minus_range v x.range) ∙ h) in
      let result = minus_row v (Int v) (map length areas) (sym (same_range (neg_ℤ v)) ∙ h) in
      does row.MgIntegerUnaryMinus ready (a ∷ b ∷ []) (Normal (integer_value (neg_ℤ v))) (refl, refl, refl)
      (_, x.word, (_, refl, (false, truth_test _ false least, (_, x.word, (_, result, (d.low, (refl, refl)))))))
  minuses a b ready fa fb false h =
      let x = simple_argument stack Integer b fb in
      let v = item_of_value b.value in
      let least : are_same_ints v (negsuc 2147483647) ≡ true = not-false (are_same_ints v (negsuc 2147483647)) (sym (minus_range v x.range) ∙ h) in
      does row.MgIntegerUnaryMinus ready (a ∷ b ∷ []) Fault (refl, refl, refl)
      (_, x.word, (_, refl, (true, truth_test _ true least, (refl, refl))))

  adds : (a b c : Argument) → Ready row.MgIntegerAdd → Fits Simple Integer a → Fits Simple Integer b → Fits Simple Integer c → (t : Bool) →
      is_in_range Integer (item_of_value b.value +ℤ item_of_value c.value) ≡ t →
      Does row.MgIntegerAdd (a ∷ b ∷ c ∷ []) (if t then Normal (integer_value (item_of_value b.value +ℤ item_of_value c.value)) else Fault)
  unfolding predef_cost
  adds a b c ready fa fb fc true h =
      let x = simple_argument stack Integer b fb in
      let y = simple_argument stack Integer c fc in
      let d = simple_argument stack Integer a fa in
      let z = item_of_value b.value +ℤ item_of_value c.value in
      let fits = sym (same_range z) ∙ h in
      let result = add_row (item_of_value b.value) (item_of_value c.value) (map length areas) in
      let e = ends a.index _ (integer_value z) (ap (λ z. Int z ∷ []) (sym (kept_is z fits))) in
      does row.MgIntegerAdd ready (a ∷ b ∷ c ∷ []) (Normal (integer_value z)) (refl, refl, refl)
      (_, x.word, (_, y.word, (_, result, (false, truth_test _ false (ap not fits), (d.low, (refl, e))))))
  adds a b c ready fa fb fc false h =
      let x = simple_argument stack Integer b fb in
      let y = simple_argument stack Integer c fc in
      let z = item_of_value b.value +ℤ item_of_value c.value in
      let result = add_row (item_of_value b.value) (item_of_value c.value) (map length areas) in
      does row.MgIntegerAdd ready (a ∷ b ∷ c ∷ []) Fault (refl, refl, refl)
      (_, x.word, (_, y.word, (_, result, (true, truth_test _ true (ap not (sym (same_range z) ∙ h)), (refl, refl)))))

  subtracts : (a b c : Argument) → Ready row.MgIntegerSubtract → Fits Simple Integer a → Fits Simple Integer b → Fits Simple Integer c → (t : Bool) →
      is_in_range Integer (item_of_value b.value -ℤ item_of_value c.value) ≡ t →
      Does row.MgIntegerSubtract (a ∷ b ∷ c ∷ []) (if t then Normal (integer_value (item_of_value b.value -ℤ item_of_value c.value)) else Fault)
  unfolding predef_cost
  subtracts a b c ready fa fb fc true h =
      let x = simple_argument stack Integer b fb in
      let y = simple_argument stack Integer c fc in
      let d = simple_argument stack Integer a fa in
      let z = item_of_value b.value -ℤ item_of_value c.value in
      let fits = sym (same_range z) ∙ h in
      let result = subtract_row (item_of_value b.value) (item_of_value c.value) (map length areas) in
      let e = ends a.index _ (integer_value z) (ap (λ z. Int z ∷ []) (sym (kept_is z fits))) in
      does row.MgIntegerSubtract ready (a ∷ b ∷ c ∷ []) (Normal (integer_value z)) (refl, refl, refl)
      (_, x.word, (_, y.word, (_, result, (false, truth_test _ false (ap not fits), (d.low, (refl, e))))))
  subtracts a b c ready fa fb fc false h =
      let x = simple_argument stack Integer b fb in
      let y = simple_argument stack Integer c fc in
      let z = item_of_value b.value -ℤ item_of_value c.value in
      let result = subtract_row (item_of_value b.value) (item_of_value c.value) (map length areas) in
      does row.MgIntegerSubtract ready (a ∷ b ∷ c ∷ []) Fault (refl, refl, refl)
      (_, x.word, (_, y.word, (_, result, (true, truth_test _ true (ap not (sym (same_range z) ∙ h)), (refl, refl)))))

  -- both rows of arrays look at the index first
  reads_below_zero : (a b c : Argument) → Ready row.MgIndexArray → Fits Simple k a → Fits Array k b → Fits Simple Integer c →
      is_negative (item_of_value c.value) ≡ true → Does row.MgIndexArray (a ∷ b ∷ c ∷ []) Fault
  unfolding predef_cost
  reads_below_zero a b c ready fa fb fc below =
      does row.MgIndexArray ready (a ∷ b ∷ c ∷ []) Fault (refl, refl, refl)
      (_, (simple_argument stack Integer c fc).word, (true, negative_test (item_of_value c.value) ∙ ap Ok below, (refl, refl)))

  reads_beyond : (a b c : Argument) → Ready row.MgIndexArray → Fits Simple k a → Fits Array k b → Fits Simple Integer c →
      is_negative (item_of_value c.value) ≡ false → int_lt (item_of_value c.value) (pos (item_count b.value.shape)) ≡ false →
      Does row.MgIndexArray (a ∷ b ∷ c ∷ []) Beyond
  unfolding predef_cost
  reads_beyond a b c ready fa fb fc below less =
      let at_index = simple_argument stack Integer c fc in
      let sign = negative_test (item_of_value c.value) ∙ ap Ok below in
      does row.MgIndexArray ready (a ∷ b ∷ c ∷ []) Beyond (refl, refl, refl)
      (_, at_index.word, (false, sign, (_, refl, (true, false_test _ true (ap not less), (refl, refl)))))

  reads : (a b c : Argument) → Ready row.MgIndexArray → Fits Simple k a → Fits Array k b → Fits Simple Integer c →
      (i : ℕ) → item_of_value c.value ≡ pos i → i < length b.value.items →
      Does row.MgIndexArray (a ∷ b ∷ c ∷ []) (Normal record { shape = simple b.value.shape.kind; items = get_or b.value.items i (pos 0) ∷ [] })
  unfolding predef_cost
  reads a b c ready fa fb fc i is h =
      let z = item_of_value c.value in
      let n = pos (item_count b.value.shape) in
      let below : is_negative z ≡ false = ap is_negative is in
      let less : int_lt z n ≡ true = ap (λ z. int_lt z n) is ∙ ap (nat_lt i) (sym fb.1.number) ∙ lt-ltb i (length b.value.items) h in
      let at_index = simple_argument stack Integer c fc in
      let d = simple_argument stack k a fa in
      let sign = negative_test z ∙ ap Ok below in
      let inside = false_test (int_lt z n) false (ap not less) in
      let word = array_word stack k b i fb h in
      let low : b.index + i < length stack = element_there stack (b.index + i) _ word in
      let number : words.row_of op.IntToNat (Int z) (Int z) (Int z) (map length areas) ≡ Ok (One (Nat i)) =
      ap (λ y. words.row_of op.IntToNat (Int z) (Int z) (Int y) (map length areas)) is
      ∙ to_nat_row i (Int z) (map length areas) (omega (arith, low, ready.temp, small)) in
      let sum = add_nat_row b.index i (Nat i) (map length areas) (omega (arith, low, ready.temp, small)) in
      let value : ValueOf = record { shape = simple b.value.shape.kind; items = get_or b.value.items i (pos 0) ∷ [] } in
      does row.MgIndexArray ready (a ∷ b ∷ c ∷ []) (Normal value) (refl, refl, refl)
      (_, at_index.word, (false, sign, (_, refl, (false, inside, (_, number, (_, sum, (_, word, (d.low, (refl, refl)))))))))

  stores_below_zero : (a b c : Argument) → Ready row.MgArrayElementAssignment → Fits Array k a → Fits Simple Integer b → Fits Simple k c →
      is_negative (item_of_value b.value) ≡ true → Does row.MgArrayElementAssignment (a ∷ b ∷ c ∷ []) Fault
  unfolding predef_cost
  stores_below_zero a b c ready fa fb fc below =
      does row.MgArrayElementAssignment ready (a ∷ b ∷ c ∷ []) Fault (refl, refl, refl)
      (_, (simple_argument stack Integer b fb).word, (true, negative_test (item_of_value b.value) ∙ ap Ok below, (refl, refl)))

  stores_beyond : (a b c : Argument) → Ready row.MgArrayElementAssignment → Fits Array k a → Fits Simple Integer b → Fits Simple k c →
      is_negative (item_of_value b.value) ≡ false → int_lt (item_of_value b.value) (pos (item_count a.value.shape)) ≡ false →
      Does row.MgArrayElementAssignment (a ∷ b ∷ c ∷ []) Beyond
  unfolding predef_cost
  stores_beyond a b c ready fa fb fc below less =
      let at_index = simple_argument stack Integer b fb in
      let sign = negative_test (item_of_value b.value) ∙ ap Ok below in
      does row.MgArrayElementAssignment ready (a ∷ b ∷ c ∷ []) Beyond (refl, refl, refl)
      (_, at_index.word, (false, sign, (_, refl, (true, false_test _ true (ap not less), (refl, refl)))))

  stores : (a b c : Argument) → Ready row.MgArrayElementAssignment → Fits Array k a → Fits Simple Integer b → Fits Simple k c →
      (i : ℕ) → item_of_value b.value ≡ pos i → i < length a.value.items → Does row.MgArrayElementAssignment (a ∷ b ∷ c ∷ [])
      (Normal record { shape = a.value.shape; items = slice_set a.value.items i (item_of_value c.value) })
  unfolding predef_cost
  stores a b c ready fa fb fc i is h =
      let z = item_of_value b.value in
      let n = pos (item_count a.value.shape) in
      let below : is_negative z ≡ false = ap is_negative is in
      let less : int_lt z n ≡ true = ap (λ z. int_lt z n) is ∙ ap (nat_lt i) (sym fa.1.number) ∙ lt-ltb i (length a.value.items) h in
      let at_index = simple_argument stack Integer b fb in
      let x = simple_argument stack k c fc in
      let sign = negative_test z ∙ ap Ok below in
      let within = false_test (int_lt z n) false (ap not less) in
      let low : a.index + i < length stack = element_there stack (a.index + i) _ (array_word stack k a i fa h) in
      let number : words.row_of op.IntToNat (Int z) (Int z) (Int z) (map length areas) ≡ Ok (One (Nat i)) =
      ap (λ y. words.row_of op.IntToNat (Int z) (Int z) (Int y) (map length areas)) is
      ∙ to_nat_row i (Int z) (map length areas) (omega (arith, low, ready.temp, small)) in
      let sum = add_nat_row a.index i (Nat i) (map length areas) (omega (arith, low, ready.temp, small)) in
      let item = item_of_value c.value in
      let kind = a.value.shape.kind in
      let inside : i < length (words_of_value a.value) = omega (arith, h, length-map a.value.items (word_of_item kind)) in
      let out = ap (with_elements stack a.index) (map-set (word_of_item kind) a.value.items i item)
      ∙ written_one (words_of_value a.value) stack a.index i (word_of_item kind item) fa.2 inside
      ∙ ap (λ k. with_element stack (a.index + i) (word_of_item k item)) fa.0 in
      let value : ValueOf = record { shape = a.value.shape; items = slice_set a.value.items i item } in
      does row.MgArrayElementAssignment ready (a ∷ b ∷ c ∷ []) (Normal value) (refl, refl, refl)
      (_, at_index.word, (false, sign, (_, refl, (false, within, (_, x.word, (_, number, (_, sum, (low, (refl, ap after (sym out))))))))))

  multiplies : (a b c : Argument) → Ready row.MgIntegerMultiply → Fits Simple Integer a → Fits Simple Integer b → Fits Simple Integer c → (t : Bool) →
      is_in_range Integer (item_of_value b.value *ℤ item_of_value c.value) ≡ t →
      Does row.MgIntegerMultiply (a ∷ b ∷ c ∷ []) (if t then Normal (integer_value (item_of_value b.value *ℤ item_of_value c.value)) else Fault)
  unfolding predef_cost
  multiplies a b c ready fa fb fc true h =
      let u = item_of_value b.value in
      let v = item_of_value c.value in
      let y = simple_argument stack Integer c fc in
      calls (called (body_of row.MgIntegerMultiply) ready.found) ready.found (Nat c.index ∷ Nat b.index ∷ Nat a.index ∷ stack) areas at (omega arith) ready.ctrl
      (product_fits s program caller place f fs areas ready.found a.index b.index c.index u v stack (simple_argument stack Integer b fb).word y.word
      ready.temp (sym (same_range v) ∙ y.range) (simple_argument stack Integer a fa).low (sym (same_range (u *ℤ v)) ∙ h))
  multiplies a b c ready fa fb fc false h =
      let u = item_of_value b.value in
      let v = item_of_value c.value in
      let y = simple_argument stack Integer c fc in
      calls (called (body_of row.MgIntegerMultiply) ready.found) ready.found (Nat c.index ∷ Nat b.index ∷ Nat a.index ∷ stack) areas at (omega arith) ready.ctrl
      (product_overflows s program caller place f fs areas ready.found a.index b.index c.index u v stack (simple_argument stack Integer b fb).word y.word
      ready.temp (sym (same_range v) ∙ y.range) (sym (same_range (u *ℤ v)) ∙ h))

  -- an index that is too low, inside or too high
  read_runs : (a b c : Argument) → Ready row.MgIndexArray → Fits Simple k a → Fits Array k b → Fits Simple Integer c →
      (z : ℤ) → item_of_value c.value ≡ z → Does row.MgIndexArray (a ∷ b ∷ c ∷ []) (indexed b.value z)
  read_runs a b c ready fa fb fc (negsuc m) e = reads_below_zero a b c ready fa fb fc (ap is_negative e)
  read_runs a b c ready fa fb fc (pos i) e = pick (nat_lt i (length b.value.items)) refl
    where
      pick : (t : Bool) → nat_lt i (length b.value.items) ≡ t → Does row.MgIndexArray (a ∷ b ∷ c ∷ [])
          (if t then Normal record { shape = simple b.value.shape.kind; items = get_or b.value.items i (pos 0) ∷ [] } else Beyond)
      pick true h = reads a b c ready fa fb fc i e (ltb-true i (length b.value.items) h)
      pick false h =
          reads_beyond a b c ready fa fb fc (ap is_negative e)
          (ap (λ z. int_lt z (pos (item_count b.value.shape))) e ∙ ap (nat_lt i) (sym fb.1.number) ∙ h)

  store_runs : (a b c : Argument) → Ready row.MgArrayElementAssignment → Fits Array k a → Fits Simple Integer b → Fits Simple k c →
      (z : ℤ) → item_of_value b.value ≡ z → Does row.MgArrayElementAssignment (a ∷ b ∷ c ∷ []) (effects.stored a.value z (item_of_value c.value))
  store_runs a b c ready fa fb fc (negsuc m) e = stores_below_zero a b c ready fa fb fc (ap is_negative e)
  store_runs a b c ready fa fb fc (pos i) e = pick (nat_lt i (length a.value.items)) refl
    where
      pick : (t : Bool) → nat_lt i (length a.value.items) ≡ t → Does row.MgArrayElementAssignment (a ∷ b ∷ c ∷ [])
          (if t then Normal record { shape = a.value.shape; items = slice_set a.value.items i (item_of_value c.value) } else Beyond)
      pick true h = stores a b c ready fa fb fc i e (ltb-true i (length a.value.items) h)
      pick false h =
          stores_beyond a b c ready fa fb fc (ap is_negative e)
          (ap (λ z. int_lt z (pos (item_count a.value.shape))) e ∙ ap (nat_lt i) (sym fa.1.number) ∙ h)

  -- All rows.

  abbrev Row : Predef → List Argument → Type 0
  Row r args = Does r args (predef_effect r (values_of args))

  row_runs : (r : Predef) (args : List Argument) → Ready r → ArgumentsFit stack k (slots_of r) args → Row r args
  unfolding predef_effect
  row_runs row.MgSimpleVariableAssignment args ready fit =
      for_two stack k (shared Simple) (shared Simple) (Row row.MgSimpleVariableAssignment) (λ a b fa fb. assigns_variable a b ready fa fb) args fit
  row_runs row.MgSimpleConstantAssignment args ready fit =
      for_two stack k (shared Simple) (shared Literal) (Row row.MgSimpleConstantAssignment) (λ a b fa fb. assigns_constant a b ready fa fb) args fit
  row_runs row.MgSimpleVariableEq args ready fit =
      for_three stack k boolean_slot (shared Simple) (shared Simple) (Row row.MgSimpleVariableEq) (λ a b c fa fb fc. equals a b c ready fa fb fc) args fit
  row_runs row.MgSimpleConstantEq args ready fit =
      for_three stack k boolean_slot (shared Simple) (shared Literal) (Row row.MgSimpleConstantEq)
      (λ a b c fa fb fc. equals_constant a b c ready fa fb fc) args fit
  row_runs row.MgIntegerLe args ready fit =
      for_three stack k boolean_slot integer_slot integer_slot (Row row.MgIntegerLe) (λ a b c fa fb fc. compares a b c ready fa fb fc) args fit
  row_runs row.MgIntegerUnaryMinus args ready fit =
      for_two stack k integer_slot integer_slot (Row row.MgIntegerUnaryMinus) (λ a b fa fb. minuses a b ready fa fb _ refl) args fit
  row_runs row.MgIntegerAdd args ready fit =
      for_three stack k integer_slot integer_slot integer_slot (Row row.MgIntegerAdd) (λ a b c fa fb fc. adds a b c ready fa fb fc _ refl) args fit
  row_runs row.MgIntegerSubtract args ready fit =
      for_three stack k integer_slot integer_slot integer_slot (Row row.MgIntegerSubtract) (λ a b c fa fb fc. subtracts a b c ready fa fb fc _ refl) args fit
  row_runs row.MgBooleanOr args ready fit =
      for_three stack k boolean_slot boolean_slot boolean_slot (Row row.MgBooleanOr) (λ a b c fa fb fc. ors a b c ready fa fb fc) args fit
  row_runs row.MgBooleanAnd args ready fit =
      for_three stack k boolean_slot boolean_slot boolean_slot (Row row.MgBooleanAnd) (λ a b c fa fb fc. ands a b c ready fa fb fc) args fit
  row_runs row.MgBooleanNot args ready fit =
      for_two stack k boolean_slot boolean_slot (Row row.MgBooleanNot) (λ a b fa fb. negates a b ready fa fb) args fit
  row_runs row.MgIndexArray args ready fit =
      for_three stack k (shared Simple) (shared Array) integer_slot (Row row.MgIndexArray)
      (λ a b c fa fb fc. read_runs a b c ready fa fb fc (item_of_value c.value) refl) args fit
  row_runs row.MgArrayElementAssignment args ready fit =
      for_three stack k (shared Array) integer_slot (shared Simple) (Row row.MgArrayElementAssignment)
      (λ a b c fa fb fc. store_runs a b c ready fa fb fc (item_of_value b.value) refl) args fit
  row_runs row.MgIntegerMultiply args ready fit =
      for_three stack k integer_slot integer_slot integer_slot (Row row.MgIntegerMultiply) (λ a b c fa fb fc. multiplies a b c ready fa fb fc _ refl) args fit

pub counts : CountsAdd
unfolding predef_cost
counts row.MgSimpleVariableAssignment (Normal v) = (refl, refl)
counts r (Normal v) = (refl, refl)
counts row.MgSimpleVariableAssignment Fault = (refl, refl)
counts r Fault = (refl, refl)
counts row.MgSimpleVariableAssignment Beyond = (refl, refl)
counts r Beyond = (refl, refl)

pub runs : PredefRuns
runs s start r k args stack f fs p found at fit =
    let program = start + predef_number r in
    let words = with_arguments r args stack in
    let same : p ≡ record p { frames = f ∷ fs; stack = words } =
    ap (λ (frames : List Frame). record p { frames = frames }) at.frames ∙ ap (λ (stack : List Word). record p { frames = f ∷ fs; stack = stack }) at.pushed in
    let ready : Ready s program p.program p.place f fs stack p.areas k at.temp at.call r = record { found = found; temp = at.temp_room; ctrl = at.ctrl_room } in
    subst (λ q. Runs s r args stack q (predef_effect r (values_of args))) (sym same)
    (row_runs s program p.program p.place f fs stack p.areas k at.temp at.call r args ready fit)

pub written_words : WordsWritten
written_words stack index words room = record {
  size = written_length words stack index;
  written = λ h w e. written_word words stack index h w room e;
  kept = λ i low apart. written_other words stack index i room low apart;
}
