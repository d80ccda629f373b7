-- The rules of the predefined procedures. Each says which variable is written with what, or that the condition is routineerror.
use Rattle.std.proofs.Common.{◌≡◌, ℕ, ◌<◌, ◌≤◌, List, [], ◌∷◌, length, get_or, Bool, true, false, Some, None, refl, sym, ap, ◌∙◌, subst, slice_set}
use Rattle.std.{specs.Prelude.{ℤ, pos, negsuc, ◌+ℤ◌, ◌-ℤ◌, ◌*ℤ◌, neg_ℤ, int_le, nat_lt, not, ◌&&◌, ◌||◌, if◌then◌else◌}, proofs.lemmas.Bool.{lt-ltb, le-ltb}}
use Rattle.stack_text.{specs.declared.shape.Kind.TheVariants.Integer, specs.Values.ValueOf}
use Rattle.gypsy_syntax.specs.declared.predef.Predef.TheVariants as row
use Rattle.gypsy_syntax.{specs.Programs.{Routine, Arg, Var, Lit, Program, Apply, simple}, specs.Predefined.{predef_effect, effect_by}, specs.Ranges.is_in_range}
use Rattle.gypsy_syntax.specs.Effects.{Normal, Fault, Beyond, value_at, item_of_value, is_true_value, integer_value, truth_value, are_same, number_effect}
use Rattle.gypsy_syntax.specs.Effects.{indexed, stored}
use Rattle.gypsy_space.specs.Needs.{StackSizes}
use Rattle.gypsy_semantics.specs.Calls.{values_of, target_of}
use Rattle.gypsy_logic.{specs.Ends.{Exit, Ends, Applied}, proofs.Rules.apply_rule}

-- ---- what an effect comes to

number_fits : (args : List Arg) (x : List ValueOf) (Q : Exit) (y z : ℤ) → y ≡ z → is_in_range Integer z ≡ true
    → Q (slice_set x (target_of args) (integer_value z)) None → Applied args x Q (number_effect y)
number_fits args x Q y z is e h = subst (λ (t : ℤ). Applied args x Q (number_effect t)) (sym is) (pick (is_in_range Integer z) e)
  where
    pick : (b : Bool) → b ≡ true → Applied args x Q (if b then Normal (integer_value z) else Fault)
    pick true f = h
    pick false f = cc

number_overflows : (args : List Arg) (x : List ValueOf) (Q : Exit) (z : ℤ) → is_in_range Integer z ≡ false → Q x (Some Routine)
    → Applied args x Q (number_effect z)
number_overflows args x Q z e h = pick (is_in_range Integer z) e
  where
    pick : (b : Bool) → b ≡ false → Applied args x Q (if b then Normal (integer_value z) else Fault)
    pick true f = cc
    pick false f = h

-- an integer variable's number, a Boolean variable's truth, an array variable's items
abbrev pub number_at : List ValueOf → ℕ → ℤ
number_at x a = item_of_value (value_at x a)

abbrev pub truth_at : List ValueOf → ℕ → Bool
truth_at x a = is_true_value (value_at x a)

abbrev pub items_at : List ValueOf → ℕ → List ℤ
items_at x a = (value_at x a).items

-- a variable with another value
abbrev pub with_value : List ValueOf → ℕ → ValueOf → List ValueOf
with_value x d v = slice_set x d v

module _ {q : Program} {sizes u : StackSizes} {place d : ℕ} {x : List ValueOf} {Q : Exit} where
  -- d := a
  pub assign_rule : {a : ℕ} → Q (with_value x d (value_at x a)) None → Ends q sizes u (Apply place row.MgSimpleVariableAssignment (Var d ∷ Var a ∷ [])) x Q
  unfolding predef_effect effect_by values_of target_of
  assign_rule h = apply_rule h

  -- d := v
  pub constant_rule : {v : ValueOf} → Q (with_value x d v) None → Ends q sizes u (Apply place row.MgSimpleConstantAssignment (Var d ∷ Lit v ∷ [])) x Q
  unfolding predef_effect effect_by values_of target_of
  constant_rule h = apply_rule h

  -- d := a = b
  pub equal_rule : {a b : ℕ} → Q (with_value x d (truth_value (are_same (value_at x a) (value_at x b)))) None
      → Ends q sizes u (Apply place row.MgSimpleVariableEq (Var d ∷ Var a ∷ Var b ∷ [])) x Q
  unfolding predef_effect effect_by values_of target_of
  equal_rule h = apply_rule h

  -- d := a = v
  pub equal_constant_rule : {a : ℕ} {v : ValueOf} → Q (with_value x d (truth_value (are_same (value_at x a) v))) None
      → Ends q sizes u (Apply place row.MgSimpleConstantEq (Var d ∷ Var a ∷ Lit v ∷ [])) x Q
  unfolding predef_effect effect_by values_of target_of
  equal_constant_rule h = apply_rule h

  -- d := a <= b
  pub at_most_rule : {a b : ℕ} → Q (with_value x d (truth_value (int_le (number_at x a) (number_at x b)))) None
      → Ends q sizes u (Apply place row.MgIntegerLe (Var d ∷ Var a ∷ Var b ∷ [])) x Q
  unfolding predef_effect effect_by values_of target_of
  at_most_rule h = apply_rule h

  -- d := a or b, d := a and b, d := not a
  pub or_rule : {a b : ℕ} → Q (with_value x d (truth_value (truth_at x a || truth_at x b))) None
      → Ends q sizes u (Apply place row.MgBooleanOr (Var d ∷ Var a ∷ Var b ∷ [])) x Q
  unfolding predef_effect effect_by values_of target_of
  or_rule h = apply_rule h

  pub and_rule : {a b : ℕ} → Q (with_value x d (truth_value (truth_at x a && truth_at x b))) None
      → Ends q sizes u (Apply place row.MgBooleanAnd (Var d ∷ Var a ∷ Var b ∷ [])) x Q
  unfolding predef_effect effect_by values_of target_of
  and_rule h = apply_rule h

  pub not_rule : {a : ℕ} → Q (with_value x d (truth_value (not (truth_at x a)))) None → Ends q sizes u (Apply place row.MgBooleanNot (Var d ∷ Var a ∷ [])) x Q
  unfolding predef_effect effect_by values_of target_of
  not_rule h = apply_rule h

  -- d := a + b, where that is z and 32 signed bits have it; and where they haven't it
  pub add_rule : {a b : ℕ} (z : ℤ) → number_at x a +ℤ number_at x b ≡ z → is_in_range Integer z ≡ true → Q (with_value x d (integer_value z)) None
      → Ends q sizes u (Apply place row.MgIntegerAdd (Var d ∷ Var a ∷ Var b ∷ [])) x Q
  unfolding predef_effect effect_by values_of target_of
  add_rule {a = a} {b = b} z is e h = apply_rule (number_fits (Var d ∷ Var a ∷ Var b ∷ []) x Q (number_at x a +ℤ number_at x b) z is e h)

  pub add_fails : {a b : ℕ} (z : ℤ) → number_at x a +ℤ number_at x b ≡ z → is_in_range Integer z ≡ false → Q x (Some Routine)
      → Ends q sizes u (Apply place row.MgIntegerAdd (Var d ∷ Var a ∷ Var b ∷ [])) x Q
  unfolding predef_effect effect_by values_of target_of
  add_fails {a = a} {b = b} z is e h =
      apply_rule (number_overflows (Var d ∷ Var a ∷ Var b ∷ []) x Q (number_at x a +ℤ number_at x b) (ap (is_in_range Integer) is ∙ e) h)

  -- by whether they have it
  pub add_either : {a b : ℕ} (z : ℤ) → number_at x a +ℤ number_at x b ≡ z → (is_in_range Integer z ≡ true → Q (with_value x d (integer_value z)) None)
      → (is_in_range Integer z ≡ false → Q x (Some Routine)) → Ends q sizes u (Apply place row.MgIntegerAdd (Var d ∷ Var a ∷ Var b ∷ [])) x Q
  add_either {a = a} {b = b} z is h k = pick (is_in_range Integer z) refl
    where
      pick : (t : Bool) → is_in_range Integer z ≡ t → Ends q sizes u (Apply place row.MgIntegerAdd (Var d ∷ Var a ∷ Var b ∷ [])) x Q
      pick true e = add_rule z is e (h e)
      pick false e = add_fails z is e (k e)

  -- d := a - b
  pub subtract_rule : {a b : ℕ} (z : ℤ) → number_at x a -ℤ number_at x b ≡ z → is_in_range Integer z ≡ true → Q (with_value x d (integer_value z)) None
      → Ends q sizes u (Apply place row.MgIntegerSubtract (Var d ∷ Var a ∷ Var b ∷ [])) x Q
  unfolding predef_effect effect_by values_of target_of
  subtract_rule {a = a} {b = b} z is e h = apply_rule (number_fits (Var d ∷ Var a ∷ Var b ∷ []) x Q (number_at x a -ℤ number_at x b) z is e h)

  pub subtract_fails : {a b : ℕ} (z : ℤ) → number_at x a -ℤ number_at x b ≡ z → is_in_range Integer z ≡ false → Q x (Some Routine)
      → Ends q sizes u (Apply place row.MgIntegerSubtract (Var d ∷ Var a ∷ Var b ∷ [])) x Q
  unfolding predef_effect effect_by values_of target_of
  subtract_fails {a = a} {b = b} z is e h =
      apply_rule (number_overflows (Var d ∷ Var a ∷ Var b ∷ []) x Q (number_at x a -ℤ number_at x b) (ap (is_in_range Integer) is ∙ e) h)

  -- d := a * b
  pub multiply_rule : {a b : ℕ} (z : ℤ) → number_at x a *ℤ number_at x b ≡ z → is_in_range Integer z ≡ true → Q (with_value x d (integer_value z)) None
      → Ends q sizes u (Apply place row.MgIntegerMultiply (Var d ∷ Var a ∷ Var b ∷ [])) x Q
  unfolding predef_effect effect_by values_of target_of
  multiply_rule {a = a} {b = b} z is e h = apply_rule (number_fits (Var d ∷ Var a ∷ Var b ∷ []) x Q (number_at x a *ℤ number_at x b) z is e h)

  pub multiply_fails : {a b : ℕ} (z : ℤ) → number_at x a *ℤ number_at x b ≡ z → is_in_range Integer z ≡ false → Q x (Some Routine)
      → Ends q sizes u (Apply place row.MgIntegerMultiply (Var d ∷ Var a ∷ Var b ∷ [])) x Q
  unfolding predef_effect effect_by values_of target_of
  multiply_fails {a = a} {b = b} z is e h =
      apply_rule (number_overflows (Var d ∷ Var a ∷ Var b ∷ []) x Q (number_at x a *ℤ number_at x b) (ap (is_in_range Integer) is ∙ e) h)

  -- d := -a
  pub negate_rule : {a : ℕ} (z : ℤ) → neg_ℤ (number_at x a) ≡ z → is_in_range Integer z ≡ true → Q (with_value x d (integer_value z)) None
      → Ends q sizes u (Apply place row.MgIntegerUnaryMinus (Var d ∷ Var a ∷ [])) x Q
  unfolding predef_effect effect_by values_of target_of
  negate_rule {a = a} z is e h = apply_rule (number_fits (Var d ∷ Var a ∷ []) x Q (neg_ℤ (number_at x a)) z is e h)

  pub negate_fails : {a : ℕ} (z : ℤ) → neg_ℤ (number_at x a) ≡ z → is_in_range Integer z ≡ false → Q x (Some Routine)
      → Ends q sizes u (Apply place row.MgIntegerUnaryMinus (Var d ∷ Var a ∷ [])) x Q
  unfolding predef_effect effect_by values_of target_of
  negate_fails {a = a} z is e h = apply_rule (number_overflows (Var d ∷ Var a ∷ []) x Q (neg_ℤ (number_at x a)) (ap (is_in_range Integer) is ∙ e) h)

-- ---- arrays

item_there : (args : List Arg) (x : List ValueOf) (Q : Exit) (a : ValueOf) (z : ℤ) (i : ℕ) → z ≡ pos i → i < length a.items
    → Q (slice_set x (target_of args) record { shape = simple a.shape.kind; items = get_or a.items i (pos 0) ∷ [] }) None
    → Applied args x Q (indexed a z)
item_there args x Q a z i e less h =
    subst (λ (t : ℤ). Applied args x Q (indexed a t)) (sym e) (pick (nat_lt i (length a.items)) (lt-ltb i (length a.items) less))
  where
    pick : (b : Bool) → b ≡ true → Applied args x Q (if b then Normal record { shape = simple a.shape.kind; items = get_or a.items i (pos 0) ∷ [] } else Beyond)
    pick true f = h
    pick false f = cc

item_stored : (args : List Arg) (x : List ValueOf) (Q : Exit) (a : ValueOf) (z : ℤ) (i : ℕ) (n : ℤ) → z ≡ pos i → i < length a.items
    → Q (slice_set x (target_of args) record { shape = a.shape; items = slice_set a.items i n }) None → Applied args x Q (stored a z n)
item_stored args x Q a z i n e less h =
    subst (λ (t : ℤ). Applied args x Q (stored a t n)) (sym e) (pick (nat_lt i (length a.items)) (lt-ltb i (length a.items) less))
  where
    pick : (b : Bool) → b ≡ true → Applied args x Q (if b then Normal record { shape = a.shape; items = slice_set a.items i n } else Beyond)
    pick true f = h
    pick false f = cc

-- outside an array: the index is negative, or not below the length
pub data Outside (a : ValueOf) : ℤ → Type 0 where
  negative : (n : ℕ) → Outside a (negsuc n)
  past : (i : ℕ) → length a.items ≤ i → Outside a (pos i)

item_missing : (args : List Arg) (x : List ValueOf) (Q : Exit) (a : ValueOf) (z : ℤ) → Outside a z → Q x (Some Routine) → Applied args x Q (indexed a z)
item_missing args x Q a (negsuc n) (negative m) h = h
item_missing args x Q a (pos i) (past j far) h = pick (nat_lt i (length a.items)) (le-ltb i (length a.items) far)
  where
    pick : (b : Bool) → b ≡ false → Applied args x Q
        (if b then Normal record { shape = simple a.shape.kind; items = get_or a.items i (pos 0) ∷ [] } else Beyond)
    pick true f = cc
    pick false f = h

item_refused : (args : List Arg) (x : List ValueOf) (Q : Exit) (a : ValueOf) (z n : ℤ) → Outside a z → Q x (Some Routine) → Applied args x Q (stored a z n)
item_refused args x Q a (negsuc m) n (negative l) h = h
item_refused args x Q a (pos i) n (past j far) h = pick (nat_lt i (length a.items)) (le-ltb i (length a.items) far)
  where
    pick : (b : Bool) → b ≡ false → Applied args x Q (if b then Normal record { shape = a.shape; items = slice_set a.items i n } else Beyond)
    pick true f = cc
    pick false f = h

module _ {q : Program} {sizes u : StackSizes} {place d a k : ℕ} {x : List ValueOf} {Q : Exit} where
  -- d := a[k], where variable k has the index i inside the array; and where it is outside
  pub index_rule : (i : ℕ) → number_at x k ≡ pos i → i < length (items_at x a) → Q
      (with_value x d record { shape = simple (value_at x a).shape.kind; items = get_or (items_at x a) i (pos 0) ∷ [] }) None
      → Ends q sizes u (Apply place row.MgIndexArray (Var d ∷ Var a ∷ Var k ∷ [])) x Q
  unfolding predef_effect effect_by values_of target_of
  index_rule i e less h = apply_rule (item_there (Var d ∷ Var a ∷ Var k ∷ []) x Q (value_at x a) (number_at x k) i e less h)

  pub index_fails : Outside (value_at x a) (number_at x k) → Q x (Some Routine) → Ends q sizes u (Apply place row.MgIndexArray (Var d ∷ Var a ∷ Var k ∷ [])) x Q
  unfolding predef_effect effect_by values_of target_of
  index_fails out h = apply_rule (item_missing (Var d ∷ Var a ∷ Var k ∷ []) x Q (value_at x a) (number_at x k) out h)

  -- a[k] := d
  pub store_rule : (i : ℕ) → number_at x k ≡ pos i → i < length (items_at x a) → Q
      (with_value x a record { shape = (value_at x a).shape; items = slice_set (items_at x a) i (number_at x d) }) None
      → Ends q sizes u (Apply place row.MgArrayElementAssignment (Var a ∷ Var k ∷ Var d ∷ [])) x Q
  unfolding predef_effect effect_by values_of target_of
  store_rule i e less h = apply_rule (item_stored (Var a ∷ Var k ∷ Var d ∷ []) x Q (value_at x a) (number_at x k) i (number_at x d) e less h)

  pub store_fails : Outside (value_at x a) (number_at x k) → Q x (Some Routine) → Ends q sizes u
      (Apply place row.MgArrayElementAssignment (Var a ∷ Var k ∷ Var d ∷ [])) x Q
  unfolding predef_effect effect_by values_of target_of
  store_fails out h = apply_rule (item_refused (Var a ∷ Var k ∷ Var d ∷ []) x Q (value_at x a) (number_at x k) (number_at x d) out h)
