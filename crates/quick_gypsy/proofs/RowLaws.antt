-- What the quick code of a predefined call does.
use Rattle.std.proofs.Common.{
  ◌≡◌,
  ℕ,
  ◌+◌,
  ◌-◌,
  ◌%◌,
  ◌<◌,
  ◌≤◌,
  ◌^◌,
  ℤ,
  pos,
  negsuc,
  ◌+ℤ◌,
  ◌-ℤ◌,
  ◌*ℤ◌,
  neg_ℤ,
  Some,
  Bool,
  true,
  false,
  not,
  refl,
  sym,
  ap,
  ◌∙◌,
  subst,
  arith,
}
use Rattle.std.{proofs.Common.{List, [], ◌∷◌, ◌++◌, length, get_or, int_le}, specs.Prelude.{slice_get, slice_set, nat_lt, if◌then◌else◌, ◌&&◌, ◌||◌}}
use Rattle.std.{proofs.lemmas.Bool.{ltb-true, ltb-false, lt-ltb, le-ltb}, proofs.lemmas.Option.slice_get_within}
use Rattle.stack_text.{specs.declared.shape.Kind.Kind, specs.declared.shape.Kind.TheVariants.{Integer, Boolean}, specs.declared.shape.Shape.Shape}
use Rattle.stack_text.{specs.SharedLimits.most_array, specs.Values.ValueOf}
use Rattle.fm_words.{specs.Word.word_of_int, specs.Alu.{alu_of, does_hold}, specs.Code.no_flags, specs.declared.operation.Op.Op}
use Rattle.fm_words.{specs.declared.operation.Op.TheVariants.{Move, Neg, Add, Sub, Xor, Or, And}, specs.declared.condition.Cc.Cc}
use Rattle.fm_words.{specs.declared.condition.Cc.TheVariants.{Vs, Zs, Ge, Cs}, specs.declared.condition.Flags.Flags}
use Rattle.fm_machine.specs.Masks.{all_flags}
use Rattle.fm_code.{specs.Execution.Parts, specs.InstructionWords.{flag_z, flag_c}, proofs.NumberLaws.difference_number}
use Rattle.gypsy_syntax.{specs.declared.predef.Predef.Predef, specs.declared.slot.Slot.Slot, specs.declared.slot.Form.TheVariants.{Simple, Array, Literal}}
use Rattle.gypsy_syntax.{specs.Predefined.{slots_of, integer_slot, boolean_slot, shared, predef_effect, effect_by}, specs.Programs.{Arg, Var, Lit, simple}}
use Rattle.gypsy_syntax.{specs.ProgramFits.{ArgFits, ArgsFit, slot_kind}, specs.Ranges.is_in_range, specs.Resolved.truth_item, specs.ValuesFit.ValueFits}
use Rattle.gypsy_syntax.{specs.ValuesFit.VarsFit, specs.Effects.{Effect, Normal, Fault, Beyond, integer_value, truth_value, item_of_value, value_at}}
use Rattle.gypsy_syntax.{specs.Effects.{number_effect, indexed, stored, is_true_value, are_same}, proofs.RangeLaws.simple_item}
use Rattle.gypsy_syntax.specs.declared.predef.Predef.TheVariants as row
use Rattle.gypsy_semantics.specs.Calls.{values_of, target_of}
use Rattle.quick_code.{specs.Access.{Access, Held, Known, find_count}, specs.Moments.{Now, now, Does, Jumps}, specs.Pieces.{by_word_code, by_literal_code}}
use Rattle.quick_code.specs.Pieces.{store_code, store_literal_code, truth_code, move_code, put_code, jump_when_code, flag_v, product_code}
use Rattle.quick_code.{specs.PieceRows.{LeadsTo, operated}, proofs.PieceLaws.piece_rows, proofs.StandLaws.{does_then, jumps_then, jumps_over}}
use Rattle.quick_code.{specs.Products.product_count, proofs.ProductNumbers.{minus_word, minus_overflows}}
use Rattle.quick_gypsy.{specs.Numbers.numbers_of, specs.Layout.{Layout, IsLayout, first_of, count_of, last_address}, specs.RowCode.{assign_code, assign_count}}
use Rattle.quick_gypsy.{specs.RowCode.{row_code, row_cost, load, item_code, unless_fails}, proofs.NumbersLaws.{IsSimple, IsArray, simple_var, simple_value}}
use Rattle.quick_gypsy.{proofs.NumbersLaws.{array_var, with_item}, proofs.ItemLaws.{item_is_int, truth_number, same_items, le_items, or_items, and_items}}
use Rattle.quick_gypsy.proofs.ItemLaws.{not_item, sum_item, sum_over, difference_over, same_range}

-- what a row's code does in each outcome, where f is the target of routineerror and t the variable that is written
abbrev pub RowDoes : Parts → (ℕ → ℕ) → List ℕ → ℕ → ℕ → Now → List ValueOf → List ℕ → ℕ → Effect → Type 0
RowDoes P table code k f a x areas t (Normal v) =
    (x3 : ℕ) × (fl : Flags) × Does P table code k a (now x3 fl (numbers_of (slice_set x t v)) areas)
RowDoes P table code k f a x areas t Fault = (x3 : ℕ) × (fl : Flags) × Jumps P table code k a f (now x3 fl (numbers_of x) areas)
RowDoes P table code k f a x areas t Beyond = (x3 : ℕ) × (fl : Flags) × Jumps P table code k a f (now x3 fl (numbers_of x) areas)

-- the words that are left written another way
does_with : {P : Parts} {table : ℕ → ℕ} {code : List ℕ} {k : ℕ} {a : Now} (x3 : ℕ) (fl : Flags) (vars vars' areas : List ℕ)
    → Does P table code k a (now x3 fl vars areas) → vars ≡ vars' → Does P table code k a (now x3 fl vars' areas)
does_with {P} {table} {code} {k} {a} x3 fl vars vars' areas h e = subst (λ ws. Does P table code k a (now x3 fl ws areas)) e h

module _ (P : Parts) (table : ℕ → ℕ) (L : Layout) (is : IsLayout P table L) (x : List ValueOf) (f : ℕ) (x3 : ℕ) (fl : Flags) (areas : List ℕ) where
  -- a variable from another one
  assigned : (k : Kind) (d b : ℕ) → IsSimple L.shapes x d k → IsSimple L.shapes x b k → (y : Access) → LeadsTo P table y (first_of L b)
      → RowDoes P table (assign_code (L.access d) y) (assign_count (L.access d) y) f
      (now x3 fl (numbers_of x) areas) x areas d (Normal record { shape = simple k; items = item_of_value (value_at x b) ∷ [] })
  assigned k d b vd vb (Held j) reach =
      let w = word_of_int (item_of_value (value_at x b)) in
      let a = now x3 fl (numbers_of x) areas in
      let d1 = (piece_rows P table a).copy (L.access d) j (first_of L d) (first_of L b) w (is.reaches d vd.bound) vd.within reach vb.word in (
        x3,
        fl,
        does_with x3 fl (slice_set (numbers_of x) (first_of L d) w)
            (numbers_of (slice_set x d record { shape = simple k; items = item_of_value (value_at x b) ∷ [] })) areas
            d1 (vd.write (item_of_value (value_at x b))),
      )
  assigned k d b vd vb (Known j) reach =
      let w = word_of_int (item_of_value (value_at x b)) in
      let a = now x3 fl (numbers_of x) areas in
      let a1 = operated Move no_flags w a in
      let d1 = (piece_rows P table a).by_word Move no_flags (Known j) (first_of L b) w reach vb.word in
      let d2 = (piece_rows P table a1).store (L.access d) (first_of L d) (is.reaches d vd.bound) vd.within in (
        w,
        fl,
        does_with w fl (slice_set (numbers_of x) (first_of L d) w)
            (numbers_of (slice_set x d record { shape = simple k; items = item_of_value (value_at x b) ∷ [] })) areas
            (does_then d1 d2) (vd.write (item_of_value (value_at x b))),
      )

  constant : (k : Kind) (d : ℕ) (z : ℤ) → IsSimple L.shapes x d k
      → RowDoes P table (store_literal_code (L.access d) (word_of_int z)) (find_count (L.access d) + 1) f
      (now x3 fl (numbers_of x) areas) x areas d (Normal record { shape = simple k; items = z ∷ [] })
  constant k d z vd =
      let w = word_of_int z in
      let a = now x3 fl (numbers_of x) areas in
      let d1 = (piece_rows P table a).store_literal (L.access d) (first_of L d) w (is.reaches d vd.bound) vd.within in (
        x3,
        fl,
        does_with x3 fl (slice_set (numbers_of x) (first_of L d) w) (numbers_of (slice_set x d record { shape = simple k; items = z ∷ [] })) areas
            d1 (vd.write z),
      )

  -- whether the condition holds, stored in a Boolean
  told : (cc : Cc) (d : ℕ) (t : Bool) (y3 : ℕ) (gl : Flags) → IsSimple L.shapes x d Boolean → does_hold cc gl ≡ t
      → Does P table (truth_code cc (L.access d)) (find_count (L.access d) + 2) (now y3 gl (numbers_of x) areas)
      (now y3 gl (numbers_of (slice_set x d (truth_value t))) areas)
  told cc d t y3 gl vd h =
      let a = now y3 gl (numbers_of x) areas in
      let d1 = (piece_rows P table a).truth cc (L.access d) (first_of L d) (is.reaches d vd.bound) vd.within in
      does_with y3 gl (slice_set (numbers_of x) (first_of L d) (if does_hold cc gl then 1 else 0)) (numbers_of (slice_set x d (truth_value t))) areas d1
      (ap (λ (b : Bool). slice_set (numbers_of x) (first_of L d) (if b then 1 else 0)) h
      ∙ ap (slice_set (numbers_of x) (first_of L d)) (truth_number t) ∙ vd.write (truth_item t))

  equal : (k : Kind) (d b c : ℕ) → IsSimple L.shapes x d Boolean → IsSimple L.shapes x b k → IsSimple L.shapes x c k
      → RowDoes P table (load (L.access c) ++ (by_word_code Xor flag_z (L.access b) ++ truth_code Zs (L.access d)))
      (find_count (L.access c) + 1 + (find_count (L.access b) + 1 + (find_count (L.access d) + 2))) f
      (now x3 fl (numbers_of x) areas) x areas d (Normal (truth_value (are_same (value_at x b) (value_at x c))))
  equal k d b c vd vb vc =
      let wb = word_of_int (item_of_value (value_at x b)) in
      let wc = word_of_int (item_of_value (value_at x c)) in
      let a = now x3 fl (numbers_of x) areas in
      let a1 = operated Move no_flags wc a in
      let a2 = operated Xor flag_z wb a1 in
      let d1 = (piece_rows P table a).by_word Move no_flags (L.access c) (first_of L c) wc (is.reaches c vc.bound) vc.word in
      let d2 = (piece_rows P table a1).by_word Xor flag_z (L.access b) (first_of L b) wb (is.reaches b vb.bound) vb.word in
      let d3 = told Zs d (are_same (value_at x b) (value_at x c)) a2.x3 a2.fl vd (same_items k (item_of_value (value_at x b)) (item_of_value
      (value_at x c)) vb.range vc.range) in
      (a2.x3, a2.fl, does_then d1 (does_then d2 d3))

  equal_constant : (k : Kind) (d b : ℕ) (v : ValueOf) → IsSimple L.shapes x d Boolean → IsSimple L.shapes x b k → is_in_range k (item_of_value v) ≡ true
      → RowDoes P table (by_literal_code Move no_flags (word_of_int (item_of_value v)) ++ (by_word_code Xor flag_z (L.access b) ++ truth_code Zs
      (L.access d)))
      (1 + (find_count (L.access b) + 1 + (find_count (L.access d) + 2))) f
      (now x3 fl (numbers_of x) areas) x areas d (Normal (truth_value (are_same (value_at x b) v)))
  equal_constant k d b v vd vb range =
      let wb = word_of_int (item_of_value (value_at x b)) in
      let wc = word_of_int (item_of_value v) in
      let a = now x3 fl (numbers_of x) areas in
      let a1 = operated Move no_flags wc a in
      let a2 = operated Xor flag_z wb a1 in
      let d1 = (piece_rows P table a).by_literal Move no_flags wc in
      let d2 = (piece_rows P table a1).by_word Xor flag_z (L.access b) (first_of L b) wb (is.reaches b vb.bound) vb.word in
      let d3 = told Zs d (are_same (value_at x b) v) a2.x3 a2.fl vd (same_items k (item_of_value (value_at x b)) (item_of_value v) vb.range range) in
      (a2.x3, a2.fl, does_then d1 (does_then d2 d3))

  less_or_equal : (d b c : ℕ) → IsSimple L.shapes x d Boolean → IsSimple L.shapes x b Integer → IsSimple L.shapes x c Integer
      → RowDoes P table (load (L.access c) ++ (by_word_code Sub all_flags (L.access b) ++ truth_code Ge (L.access d)))
      (find_count (L.access c) + 1 + (find_count (L.access b) + 1 + (find_count (L.access d) + 2))) f
      (now x3 fl (numbers_of x) areas) x areas d (Normal (truth_value (int_le (item_of_value (value_at x b)) (item_of_value (value_at x c)))))
  less_or_equal d b c vd vb vc =
      let zb = item_of_value (value_at x b) in
      let zc = item_of_value (value_at x c) in
      let a = now x3 fl (numbers_of x) areas in
      let a1 = operated Move no_flags (word_of_int zc) a in
      let a2 = operated Sub all_flags (word_of_int zb) a1 in
      let d1 = (piece_rows P table a).by_word Move no_flags (L.access c) (first_of L c) (word_of_int zc) (is.reaches c vc.bound) vc.word in
      let d2 = (piece_rows P table a1).by_word Sub all_flags (L.access b) (first_of L b) (word_of_int zb) (is.reaches b vb.bound) vb.word in
      let d3 = told Ge d (int_le zb zc) a2.x3 a2.fl vd (le_items zc zb (item_is_int Integer zc vc.range) (item_is_int Integer zb vb.range)) in
      (a2.x3, a2.fl, does_then d1 (does_then d2 d3))

  -- a result in r3, which is stored where there is no overflow
  checked : (d : ℕ) (z : ℤ) (t : Bool) (w : ℕ) (gl : Flags) → IsSimple L.shapes x d Integer → is_in_range Integer z ≡ t → (t ≡ true → w ≡ word_of_int z)
      → does_hold Vs gl ≡ not t
      → RowDoes P table (jump_when_code Vs f ++ store_code (L.access d))
      (1 + unless_fails (find_count (L.access d) + 1) (if t then Normal (integer_value z) else Fault)) f
      (now w gl (numbers_of x) areas) x areas d (if t then Normal (integer_value z) else Fault)
  checked d z true w gl vd range word over =
      let a = now w gl (numbers_of x) areas in
      let d1 = (piece_rows P table a).jump_not Vs f over in
      let d2 = (piece_rows P table a).store (L.access d) (first_of L d) (is.reaches d vd.bound) vd.within in (
        w,
        gl,
        does_with w gl (slice_set (numbers_of x) (first_of L d) w) (numbers_of (slice_set x d (integer_value z))) areas (does_then d1 d2)
            (ap (slice_set (numbers_of x) (first_of L d)) (word refl) ∙ vd.write z),
      )
  checked d z false w gl vd range word over =
      let a = now w gl (numbers_of x) areas in
      let d1 = (piece_rows P table a).jump_when Vs f over in
      (w, gl, jumps_over (store_code (L.access d)) d1)

  -- code before a row's end
  before : (code rest : List ℕ) (j k d : ℕ) (a b : Now) (e : Effect) → Does P table code j a b → RowDoes P table rest k f b x areas d e
      → RowDoes P table (code ++ rest) (j + k) f a x areas d e
  before code rest j k d a b (Normal v) h g = (g.0, g.1, does_then h g.2)
  before code rest j k d a b Fault h g = (g.0, g.1, jumps_then h g.2)
  before code rest j k d a b Beyond h g = (g.0, g.1, jumps_then h g.2)

  sum : (d b c : ℕ) → IsSimple L.shapes x d Integer → IsSimple L.shapes x b Integer → IsSimple L.shapes x c Integer
      → (let e = number_effect (item_of_value (value_at x b) +ℤ item_of_value (value_at x c)) in
      RowDoes P table (load (L.access b) ++ (by_word_code Add flag_v (L.access c) ++ (jump_when_code Vs f ++ store_code (L.access d))))
      (find_count (L.access b) + 1 + (find_count (L.access c) + 1 + (1 + unless_fails (find_count (L.access d) + 1) e))) f
      (now x3 fl (numbers_of x) areas) x areas d e)
  sum d b c vd vb vc =
      let zb = item_of_value (value_at x b) in
      let zc = item_of_value (value_at x c) in
      let pb = item_is_int Integer zb vb.range in
      let pc = item_is_int Integer zc vc.range in
      let e = number_effect (zb +ℤ zc) in
      let a = now x3 fl (numbers_of x) areas in
      let a1 = operated Move no_flags (word_of_int zb) a in
      let a2 = operated Add flag_v (word_of_int zc) a1 in
      let ending = jump_when_code Vs f ++ store_code (L.access d) in
      let k3 = 1 + unless_fails (find_count (L.access d) + 1) e in
      let d1 = (piece_rows P table a).by_word Move no_flags (L.access b) (first_of L b) (word_of_int zb) (is.reaches b vb.bound) vb.word in
      let d2 = (piece_rows P table a1).by_word Add flag_v (L.access c) (first_of L c) (word_of_int zc) (is.reaches c vc.bound) vc.word in
      let d3 = checked d (zb +ℤ zc) (is_in_range Integer (zb +ℤ zc)) a2.x3 a2.fl vd refl (λ h. sum_item zb zc pb pc (sym (same_range (zb +ℤ zc)) ∙ h))
      (sum_over zb zc pb pc ∙ ap not (sym (same_range (zb +ℤ zc)))) in
      before (load (L.access b)) (by_word_code Add flag_v (L.access c) ++ ending) (find_count (L.access b) + 1) (find_count (L.access c) + 1 + k3) d a a1 e d1
      (before (by_word_code Add flag_v (L.access c)) ending (find_count (L.access c) + 1) k3 d a1 a2 e d2 d3)

  difference : (d b c : ℕ) → IsSimple L.shapes x d Integer → IsSimple L.shapes x b Integer → IsSimple L.shapes x c Integer
      → (let e = number_effect (item_of_value (value_at x b) -ℤ item_of_value (value_at x c)) in
      RowDoes P table (load (L.access b) ++ (by_word_code Sub flag_v (L.access c) ++ (jump_when_code Vs f ++ store_code (L.access d))))
      (find_count (L.access b) + 1 + (find_count (L.access c) + 1 + (1 + unless_fails (find_count (L.access d) + 1) e))) f
      (now x3 fl (numbers_of x) areas) x areas d e)
  difference d b c vd vb vc =
      let zb = item_of_value (value_at x b) in
      let zc = item_of_value (value_at x c) in
      let pb = item_is_int Integer zb vb.range in
      let pc = item_is_int Integer zc vc.range in
      let e = number_effect (zb -ℤ zc) in
      let a = now x3 fl (numbers_of x) areas in
      let a1 = operated Move no_flags (word_of_int zb) a in
      let a2 = operated Sub flag_v (word_of_int zc) a1 in
      let ending = jump_when_code Vs f ++ store_code (L.access d) in
      let k3 = 1 + unless_fails (find_count (L.access d) + 1) e in
      let d1 = (piece_rows P table a).by_word Move no_flags (L.access b) (first_of L b) (word_of_int zb) (is.reaches b vb.bound) vb.word in
      let d2 = (piece_rows P table a1).by_word Sub flag_v (L.access c) (first_of L c) (word_of_int zc) (is.reaches c vc.bound) vc.word in
      let d3 = checked d (zb -ℤ zc) (is_in_range Integer (zb -ℤ zc)) a2.x3 a2.fl vd refl
      (λ h. difference_number zb zc pb pc (sym (same_range (zb -ℤ zc)) ∙ h))
      (difference_over zb zc pb pc ∙ ap not (sym (same_range (zb -ℤ zc)))) in
      before (load (L.access b)) (by_word_code Sub flag_v (L.access c) ++ ending) (find_count (L.access b) + 1) (find_count (L.access c) + 1 + k3) d a a1 e d1
      (before (by_word_code Sub flag_v (L.access c)) ending (find_count (L.access c) + 1) k3 d a1 a2 e d2 d3)

  product : (d b c : ℕ) → IsSimple L.shapes x d Integer → IsSimple L.shapes x b Integer → IsSimple L.shapes x c Integer
      → (let zb = item_of_value (value_at x b) in
      let zc = item_of_value (value_at x c) in
      let e = number_effect (zb *ℤ zc) in
      RowDoes P table (product_code (L.access b) (L.access c) ++ (jump_when_code Vs f ++ store_code (L.access d)))
      (find_count (L.access b) + find_count (L.access c) + product_count zb zc + (1 + unless_fails (find_count (L.access d) + 1) e)) f
      (now x3 fl (numbers_of x) areas) x areas d e)
  product d b c vd vb vc =
      let zb = item_of_value (value_at x b) in
      let zc = item_of_value (value_at x c) in
      let e = number_effect (zb *ℤ zc) in
      let a = now x3 fl (numbers_of x) areas in
      let g = (piece_rows P table a).product (L.access b) (L.access c) (first_of L b) (first_of L c) zb zc (is.reaches b vb.bound)
      (is.reaches c vc.bound) vb.word vc.word (item_is_int Integer zb vb.range) (item_is_int Integer zc vc.range) in
      let rest = checked d (zb *ℤ zc) (is_in_range Integer (zb *ℤ zc)) g.x3 g.fl vd refl
      (λ h. g.word (sym (same_range (zb *ℤ zc)) ∙ h)) (g.overflow ∙ ap not (sym (same_range (zb *ℤ zc)))) in
      before (product_code (L.access b) (L.access c)) (jump_when_code Vs f ++ store_code (L.access d))
      (find_count (L.access b) + find_count (L.access c) + product_count zb zc) (1 + unless_fails (find_count (L.access d) + 1) e) d a
      (now g.x3 g.fl (numbers_of x) areas) e g.does rest

  minus : (d b : ℕ) → IsSimple L.shapes x d Integer → IsSimple L.shapes x b Integer
      → (let e = number_effect (neg_ℤ (item_of_value (value_at x b))) in
      RowDoes P table (by_word_code Neg flag_v (L.access b) ++ (jump_when_code Vs f ++ store_code (L.access d)))
      (find_count (L.access b) + 1 + (1 + unless_fails (find_count (L.access d) + 1) e)) f
      (now x3 fl (numbers_of x) areas) x areas d e)
  minus d b vd vb =
      let zb = item_of_value (value_at x b) in
      let pb = item_is_int Integer zb vb.range in
      let e = number_effect (neg_ℤ zb) in
      let a = now x3 fl (numbers_of x) areas in
      let a1 = operated Neg flag_v (word_of_int zb) a in
      let ending = jump_when_code Vs f ++ store_code (L.access d) in
      let k3 = 1 + unless_fails (find_count (L.access d) + 1) e in
      let d1 = (piece_rows P table a).by_word Neg flag_v (L.access b) (first_of L b) (word_of_int zb) (is.reaches b vb.bound) vb.word in
      let d3 = checked d (neg_ℤ zb) (is_in_range Integer (neg_ℤ zb)) a1.x3 a1.fl vd refl
      (λ h. minus_word zb pb (sym (same_range (neg_ℤ zb)) ∙ h)) (minus_overflows zb pb ∙ ap not (sym (same_range (neg_ℤ zb)))) in
      before (by_word_code Neg flag_v (L.access b)) ending (find_count (L.access b) + 1) k3 d a a1 e d1 d3

  -- a truth value from two
  combined : (op : Op) (d b c : ℕ) (t : Bool) → IsSimple L.shapes x d Boolean → IsSimple L.shapes x b Boolean → IsSimple L.shapes x c Boolean
      → ((g : Bool) → (alu_of op g (word_of_int (item_of_value (value_at x c))) (word_of_int (item_of_value (value_at x b)))).word ≡ word_of_int
      (truth_item t))
      → RowDoes P table (load (L.access b) ++ (by_word_code op no_flags (L.access c) ++ store_code (L.access d)))
      (find_count (L.access b) + 1 + (find_count (L.access c) + 1 + (find_count (L.access d) + 1))) f
      (now x3 fl (numbers_of x) areas) x areas d (Normal (truth_value t))
  combined op d b c t vd vb vc h =
      let wb = word_of_int (item_of_value (value_at x b)) in
      let wc = word_of_int (item_of_value (value_at x c)) in
      let a = now x3 fl (numbers_of x) areas in
      let a1 = operated Move no_flags wb a in
      let a2 = operated op no_flags wc a1 in
      let d1 = (piece_rows P table a).by_word Move no_flags (L.access b) (first_of L b) wb (is.reaches b vb.bound) vb.word in
      let d2 = (piece_rows P table a1).by_word op no_flags (L.access c) (first_of L c) wc (is.reaches c vc.bound) vc.word in
      let d3 = (piece_rows P table a2).store (L.access d) (first_of L d) (is.reaches d vd.bound) vd.within in (
        a2.x3,
        a2.fl,
        does_with a2.x3 a2.fl (slice_set (numbers_of x) (first_of L d) a2.x3) (numbers_of (slice_set x d (truth_value t))) areas
            (does_then d1 (does_then d2 d3)) (ap (slice_set (numbers_of x) (first_of L d)) (h fl.c) ∙ vd.write (truth_item t)),
      )

  opposite : (d b : ℕ) → IsSimple L.shapes x d Boolean → IsSimple L.shapes x b Boolean
      → RowDoes P table (load (L.access b) ++ (by_literal_code Xor no_flags 1 ++ store_code (L.access d)))
      (find_count (L.access b) + 1 + (1 + (find_count (L.access d) + 1))) f
      (now x3 fl (numbers_of x) areas) x areas d (Normal (truth_value (not (is_true_value (value_at x b)))))
  opposite d b vd vb =
      let zb = item_of_value (value_at x b) in
      let t = not (is_true_value (value_at x b)) in
      let a = now x3 fl (numbers_of x) areas in
      let a1 = operated Move no_flags (word_of_int zb) a in
      let a2 = operated Xor no_flags 1 a1 in
      let d1 = (piece_rows P table a).by_word Move no_flags (L.access b) (first_of L b) (word_of_int zb) (is.reaches b vb.bound) vb.word in
      let d2 = (piece_rows P table a1).by_literal Xor no_flags 1 in
      let d3 = (piece_rows P table a2).store (L.access d) (first_of L d) (is.reaches d vd.bound) vd.within in (
        a2.x3,
        a2.fl,
        does_with a2.x3 a2.fl (slice_set (numbers_of x) (first_of L d) a2.x3) (numbers_of (slice_set x d (truth_value t))) areas
            (does_then d1 (does_then d2 d3)) (ap (slice_set (numbers_of x) (first_of L d)) (not_item zb vb.range) ∙ vd.write (truth_item t)),
      )

  -- An item of an array: r3 its address, and then the rest of the code; or a jump.
  item_there : (v i n j : ℕ) (k : Kind) (rest : List ℕ) (kr t : ℕ) (e : Effect) → IsArray L.shapes x v n k → IsSimple L.shapes x i Integer
      → item_of_value (value_at x i) ≡ pos j → j < n
      → ((gl : Flags) → RowDoes P table rest kr f (now (P.end - 1 - (first_of L v + j)) gl (numbers_of x) areas) x areas t e)
      → RowDoes P table (item_code L f v (L.access i) rest) (1 + (find_count (L.access i) + 1 + (1 + (1 + kr)))) f
      (now x3 fl (numbers_of x) areas) x areas t e
  item_there v i n j k rest kr t e va vi is_j low go =
      let c1 = count_of L v - 1 in
      let w = word_of_int (item_of_value (value_at x i)) in
      let w_is : w ≡ j = ap word_of_int is_j in
      let a = now x3 fl (numbers_of x) areas in
      let a1 = operated Move no_flags c1 a in
      let a2 = operated Sub flag_c w a1 in
      let a3 = operated Add no_flags (last_address L v) a2 in
      let d1 = (piece_rows P table a).by_literal Move no_flags c1 in
      let d2 = (piece_rows P table a1).by_word Sub flag_c (L.access i) (first_of L i) w (is.reaches i vi.bound) vi.word in
      let d3 = (piece_rows P table a2).jump_not Cs f (le-ltb c1 w (omega (arith, w_is, low, va.counted))) in
      let d4 = (piece_rows P table a2).by_literal Add no_flags (last_address L v) in
      let address : P.end - 1 - (first_of L v + j) ≡ (last_address L v + (c1 + 2 ^ 32 - w) % 2 ^ 32) % 2 ^ 32 =
      omega (arith, w_is, low, va.counted, va.fits, is.end_is, is.fits, is.room) in
      let r4 = subst (λ y. RowDoes P table rest kr f (now y a3.fl (numbers_of x) areas) x areas t e) address (go a3.fl) in
      before (by_literal_code Move no_flags c1) (by_word_code Sub flag_c (L.access i) ++ (jump_when_code Cs f ++ (by_literal_code Add no_flags
      (last_address L v) ++ rest)))
      1 (find_count (L.access i) + 1 + (1 + (1 + kr))) t a a1 e d1
      (before (by_word_code Sub flag_c (L.access i)) (jump_when_code Cs f ++ (by_literal_code Add no_flags (last_address L v) ++ rest))
      (find_count (L.access i) + 1) (1 + (1 + kr)) t a1 a2 e d2
      (before (jump_when_code Cs f) (by_literal_code Add no_flags (last_address L v) ++ rest) 1 (1 + kr) t a2 a2 e d3
      (before (by_literal_code Add no_flags (last_address L v)) rest 1 kr t a2 a3 e d4 r4)))

  item_missing : (v i n : ℕ) (k : Kind) (rest : List ℕ) → IsArray L.shapes x v n k → IsSimple L.shapes x i Integer
      → n - 1 < word_of_int (item_of_value (value_at x i))
      → (y3 : ℕ) × (gl : Flags) × Jumps P table (item_code L f v (L.access i) rest) (1 + (find_count (L.access i) + 1 + 1))
      (now x3 fl (numbers_of x) areas) f (now y3 gl (numbers_of x) areas)
  item_missing v i n k rest va vi over =
      let c1 = count_of L v - 1 in
      let w = word_of_int (item_of_value (value_at x i)) in
      let a = now x3 fl (numbers_of x) areas in
      let a1 = operated Move no_flags c1 a in
      let a2 = operated Sub flag_c w a1 in
      let d1 = (piece_rows P table a).by_literal Move no_flags c1 in
      let d2 = (piece_rows P table a1).by_word Sub flag_c (L.access i) (first_of L i) w (is.reaches i vi.bound) vi.word in
      let d3 = (piece_rows P table a2).jump_when Cs f (lt-ltb c1 w (omega (arith, over, va.counted))) in
      (a2.x3, a2.fl, jumps_then d1 (jumps_then d2 (jumps_over (by_literal_code Add no_flags (last_address L v) ++ rest) d3)))

  indexing : (d v i n : ℕ) (k : Kind) (z : ℤ) → IsSimple L.shapes x d k → IsArray L.shapes x v n k → IsSimple L.shapes x i Integer → n ≤ 2 ^ 31 → 0 < n
      → item_of_value (value_at x i) ≡ z → is_in_range Integer z ≡ true
      → RowDoes P table (item_code L f v (L.access i) (move_code (L.access d) 3))
      (1 + (find_count (L.access i) + 1 + (1 + unless_fails (1 + (find_count (L.access d) + 1)) (indexed (value_at x v) z)))) f
      (now x3 fl (numbers_of x) areas) x areas d (indexed (value_at x v) z)
  indexing d v i n k (negsuc j) vd va vi few low is_z range =
      item_missing v i n k (move_code (L.access d) 3) va vi (omega (arith, ap word_of_int is_z, ltb-true j (2 ^ 31) range, few, low))
  indexing d v i n k (pos j) vd va vi few low is_z range = pick (nat_lt j (length (value_at x v).items)) refl
    where
      rest : List ℕ
      rest = move_code (L.access d) 3

      found : ValueOf
      found = record { shape = simple (value_at x v).shape.kind; items = get_or (value_at x v).items j (pos 0) ∷ [] }

      effect : Bool → Effect
      effect t = if t then Normal found else Beyond

      pick : (t : Bool) → nat_lt j (length (value_at x v).items) ≡ t
          → RowDoes P table (item_code L f v (L.access i) rest)
          (1 + (find_count (L.access i) + 1 + (1 + unless_fails (1 + (find_count (L.access d) + 1)) (effect t)))) f
          (now x3 fl (numbers_of x) areas) x areas d (effect t)
      pick true t =
          let below : j < n = omega (arith, ltb-true j (length (value_at x v).items) t, va.number) in
          let w = word_of_int (get_or (value_at x v).items j (pos 0)) in
          item_there v i n j k rest (find_count (L.access d) + 1) d (Normal found) va vi is_z below
          (λ gl.
          let b = now (P.end - 1 - (first_of L v + j)) gl (numbers_of x) areas in
          let d1 = (piece_rows P table b).fetch (L.access d) (first_of L d) (first_of L v + j) w (is.reaches d vd.bound) vd.within refl
          (va.word j below) in (
            P.end - 1 - (first_of L v + j),
            gl,
            does_with (P.end - 1 - (first_of L v + j)) gl (slice_set (numbers_of x) (first_of L d) w) (numbers_of (slice_set x d found)) areas d1
                (vd.write (get_or (value_at x v).items j (pos 0))
                ∙ ap (λ (h : Kind). numbers_of (slice_set x d record { shape = simple h; items = get_or (value_at x v).items j (pos 0) ∷ [] }))
                (sym va.kind_is)),
          ))
      pick false t =
          item_missing v i n k rest va vi (omega (arith, ap word_of_int is_z, ltb-false j (length (value_at x v).items) t, va.number, low))

  storing : (v i c n : ℕ) (k : Kind) (z : ℤ) → IsArray L.shapes x v n k → IsSimple L.shapes x i Integer → IsSimple L.shapes x c k → n ≤ 2 ^ 31 → 0 < n
      → item_of_value (value_at x i) ≡ z → is_in_range Integer z ≡ true
      → RowDoes P table (item_code L f v (L.access i) (put_code (L.access c)))
      (1 + (find_count (L.access i) + 1 + (1 + unless_fails (1 + (find_count (L.access c) + 1)) (stored (value_at x v) z (item_of_value (value_at x c)))))) f
      (now x3 fl (numbers_of x) areas) x areas v (stored (value_at x v) z (item_of_value (value_at x c)))
  storing v i c n k (negsuc j) va vi vc few low is_z range =
      item_missing v i n k (put_code (L.access c)) va vi (omega (arith, ap word_of_int is_z, ltb-true j (2 ^ 31) range, few, low))
  storing v i c n k (pos j) va vi vc few low is_z range = pick (nat_lt j (length (value_at x v).items)) refl
    where
      made : ValueOf
      made = with_item (value_at x v) j (item_of_value (value_at x c))

      effect : Bool → Effect
      effect t = if t then Normal made else Beyond

      pick : (t : Bool) → nat_lt j (length (value_at x v).items) ≡ t
          → RowDoes P table (item_code L f v (L.access i) (put_code (L.access c)))
          (1 + (find_count (L.access i) + 1 + (1 + unless_fails (1 + (find_count (L.access c) + 1)) (effect t)))) f
          (now x3 fl (numbers_of x) areas) x areas v (effect t)
      pick true t =
          let below : j < n = omega (arith, ltb-true j (length (value_at x v).items) t, va.number) in
          let w = word_of_int (item_of_value (value_at x c)) in
          let there = slice_get_within (numbers_of x) (first_of L v + j) (word_of_int (get_or (value_at x v).items j (pos 0))) (va.word j below) in
          item_there v i n j k (put_code (L.access c)) (find_count (L.access c) + 1) v (Normal made) va vi is_z below
          (λ gl.
          let b = now (P.end - 1 - (first_of L v + j)) gl (numbers_of x) areas in
          let d1 = (piece_rows P table b).put (L.access c) (first_of L c) (first_of L v + j) w (is.reaches c vc.bound) vc.word refl there in (
            P.end - 1 - (first_of L v + j),
            gl,
            does_with (P.end - 1 - (first_of L v + j)) gl (slice_set (numbers_of x) (first_of L v + j) w)
                (numbers_of (slice_set x v made)) areas d1 (va.write j (item_of_value (value_at x c)) below),
          ))
      pick false t =
          item_missing v i n k (put_code (L.access c)) va vi (omega (arith, ap word_of_int is_z, ltb-false j (length (value_at x v).items) t, va.number, low))

-- Arguments that fit two or three slots.
two_args : (shapes : List Shape) (k : Kind) (s t : Slot) (Q : List Arg → Type 0)
    → ((a b : Arg) → ArgFits shapes s.form (slot_kind k s.kind) a → ArgFits shapes t.form (slot_kind k t.kind) b → Q (a ∷ b ∷ []))
    → (args : List Arg) → ArgsFit shapes k (s ∷ t ∷ []) args → Q args
two_args shapes k s t Q go [] h = absurd h
two_args shapes k s t Q go (a ∷ []) h = absurd h.1
two_args shapes k s t Q go (a ∷ b ∷ []) h = go a b h.0 h.1.0
two_args shapes k s t Q go (a ∷ b ∷ c ∷ args) h = absurd h.1.1

three_args : (shapes : List Shape) (k : Kind) (s t u : Slot) (Q : List Arg → Type 0)
    → ((a b c : Arg) → ArgFits shapes s.form (slot_kind k s.kind) a → ArgFits shapes t.form (slot_kind k t.kind) b
    → ArgFits shapes u.form (slot_kind k u.kind) c → Q (a ∷ b ∷ c ∷ []))
    → (args : List Arg) → ArgsFit shapes k (s ∷ t ∷ u ∷ []) args → Q args
three_args shapes k s t u Q go [] h = absurd h
three_args shapes k s t u Q go (a ∷ []) h = absurd h.1
three_args shapes k s t u Q go (a ∷ b ∷ []) h = absurd h.1.1
three_args shapes k s t u Q go (a ∷ b ∷ c ∷ []) h = go a b c h.0 h.1.0 h.1.1.0
three_args shapes k s t u Q go (a ∷ b ∷ c ∷ d ∷ args) h = absurd h.1.1.1

one_var : (shapes : List Shape) (k : Kind) (Q : Arg → Type 0) → ((b : ℕ) → slice_get shapes b ≡ Some (simple k) → Q (Var b))
    → (a : Arg) → ArgFits shapes Simple k a → Q a
one_var shapes k Q go (Var b) h = go b h
one_var shapes k Q go (Lit v) h = absurd h

one_array : (shapes : List Shape) (k : Kind) (Q : Arg → Type 0)
    → ((b n : ℕ) → 0 < n → n ≤ most_array → slice_get shapes b ≡ Some record { kind = k; length = n } → Q (Var b))
    → (a : Arg) → ArgFits shapes Array k a → Q a
one_array shapes k Q go (Var b) h = go b h.0 h.1 h.2 h.3
one_array shapes k Q go (Lit v) h = absurd h

one_literal : (shapes : List Shape) (k : Kind) (Q : Arg → Type 0) → ((v : ValueOf) → v.shape ≡ simple k → ValueFits v → Q (Lit v))
    → (a : Arg) → ArgFits shapes Literal k a → Q a
one_literal shapes k Q go (Var b) h = absurd h
one_literal shapes k Q go (Lit v) h = go v h.0 h.1

module _ (shapes : List Shape) (k : Kind) where
  var_var : (j l : Kind) (Q : List Arg → Type 0)
      → ((d b : ℕ) → slice_get shapes d ≡ Some (simple j) → slice_get shapes b ≡ Some (simple l) → Q (Var d ∷ Var b ∷ []))
      → (a b : Arg) → ArgFits shapes Simple j a → ArgFits shapes Simple l b → Q (a ∷ b ∷ [])
  var_var j l Q go a b fa fb =
      one_var shapes j (λ a. Q (a ∷ b ∷ [])) (λ d fd. one_var shapes l (λ b. Q (Var d ∷ b ∷ [])) (λ c fc. go d c fd fc) b fb) a fa

  var_var_var : (j l m : Kind) (Q : List Arg → Type 0)
      → ((d b c : ℕ) → slice_get shapes d ≡ Some (simple j) → slice_get shapes b ≡ Some (simple l) → slice_get shapes c ≡ Some (simple m)
      → Q (Var d ∷ Var b ∷ Var c ∷ []))
      → (a b c : Arg) → ArgFits shapes Simple j a → ArgFits shapes Simple l b → ArgFits shapes Simple m c → Q (a ∷ b ∷ c ∷ [])
  var_var_var j l m Q go a b c fa fb fc =
      one_var shapes j (λ a. Q (a ∷ b ∷ c ∷ []))
      (λ d fd. one_var shapes l (λ b. Q (Var d ∷ b ∷ c ∷ [])) (λ e fe. one_var shapes m (λ c. Q (Var d ∷ Var e ∷ c ∷ [])) (λ g fg. go d e g fd fe fg)
      c fc) b fb)
      a fa

var_var_one : (shapes : List Shape) (k j l : Kind) (Q : Arg → Arg → Type 0)
    → ((d b : ℕ) → slice_get shapes d ≡ Some (simple j) → slice_get shapes b ≡ Some (simple l) → Q (Var d) (Var b))
    → (a b : Arg) → ArgFits shapes Simple j a → ArgFits shapes Simple l b → Q a b
var_var_one shapes k j l Q go a b fa fb =
    one_var shapes j (λ a. Q a b) (λ d fd. one_var shapes l (λ b. Q (Var d) b) (λ c fc. go d c fd fc) b fb) a fa

-- what has to be shown of a row
abbrev pub RowGoal : Parts → (ℕ → ℕ) → Layout → List ValueOf → ℕ → ℕ → Flags → List ℕ → Predef → List Arg → Type 0
RowGoal P table L x f x3 fl areas r args =
    let e = predef_effect r (values_of x args) in
    RowDoes P table (row_code L f args r) (row_cost L args r (values_of x args) e) f (now x3 fl (numbers_of x) areas) x areas (target_of args) e

small : (n : ℕ) → n ≤ most_array → n ≤ 2 ^ 31
small n h = omega (arith, h)

pub row_runs : (P : Parts) (table : ℕ → ℕ) (L : Layout) → IsLayout P table L → (x : List ValueOf) → VarsFit L.shapes x
    → (f x3 : ℕ) (fl : Flags) (areas : List ℕ) (k : Kind) (r : Predef) (args : List Arg) → ArgsFit L.shapes k (slots_of r) args
    → RowGoal P table L x f x3 fl areas r args
unfolding predef_effect effect_by values_of target_of
row_runs P table L is x fits f x3 fl areas k row.MgSimpleVariableAssignment args h =
    two_args L.shapes k (shared Simple) (shared Simple) (RowGoal P table L x f x3 fl areas row.MgSimpleVariableAssignment)
    (var_var L.shapes k k k (RowGoal P table L x f x3 fl areas row.MgSimpleVariableAssignment)
    (λ d b fd fb.
    let vb = simple_var L.shapes x b k fits fb in
    subst (λ (v : ValueOf). RowDoes P table (assign_code (L.access d) (L.access b)) (assign_count (L.access d) (L.access b)) f
    (now x3 fl (numbers_of x) areas) x areas d (Normal v)) vb.value (assigned P table L is x f x3 fl areas k d b (simple_var L.shapes x d k fits fd)
    vb (L.access b) (is.reaches b vb.bound)))) args h
row_runs P table L is x fits f x3 fl areas k row.MgSimpleConstantAssignment args h =
    two_args L.shapes k (shared Simple) (shared Literal) (RowGoal P table L x f x3 fl areas row.MgSimpleConstantAssignment)
    (λ a b fa fb.
    one_var L.shapes k (λ a. RowGoal P table L x f x3 fl areas row.MgSimpleConstantAssignment (a ∷ b ∷ []))
    (λ d fd. one_literal L.shapes k (λ b. RowGoal P table L x f x3 fl areas row.MgSimpleConstantAssignment (Var d ∷ b ∷ []))
    (λ v e g.
    subst (λ (u : ValueOf). RowDoes P table (store_literal_code (L.access d) (word_of_int (item_of_value v))) (find_count (L.access d) + 1) f
    (now x3 fl (numbers_of x) areas) x areas d (Normal u)) (sym (simple_value k v e g)) (constant P table L is x f x3 fl areas k d (item_of_value v)
    (simple_var L.shapes x d k fits fd))) b fb)
    a fa) args h
row_runs P table L is x fits f x3 fl areas k row.MgSimpleVariableEq args h =
    three_args L.shapes k boolean_slot (shared Simple) (shared Simple) (RowGoal P table L x f x3 fl areas row.MgSimpleVariableEq)
    (var_var_var L.shapes k Boolean k k (RowGoal P table L x f x3 fl areas row.MgSimpleVariableEq)
    (λ d b c fd fb fc. equal P table L is x f x3 fl areas k d b c (simple_var L.shapes x d Boolean fits fd) (simple_var L.shapes x b k fits fb)
    (simple_var L.shapes x c k fits fc))) args h
row_runs P table L is x fits f x3 fl areas k row.MgSimpleConstantEq args h =
    three_args L.shapes k boolean_slot (shared Simple) (shared Literal) (RowGoal P table L x f x3 fl areas row.MgSimpleConstantEq)
    (λ a b c fa fb fc.
    one_literal L.shapes k (λ c. RowGoal P table L x f x3 fl areas row.MgSimpleConstantEq (a ∷ b ∷ c ∷ []))
    (λ v e g. var_var_one L.shapes k Boolean k (λ d b. RowGoal P table L x f x3 fl areas row.MgSimpleConstantEq (d ∷ b ∷ Lit v ∷ []))
    (λ d b fd fb. equal_constant P table L is x f x3 fl areas k d b v (simple_var L.shapes x d Boolean fits fd) (simple_var L.shapes x b k fits fb)
    (simple_item k v e g)) a b fa fb)
    c fc) args h
row_runs P table L is x fits f x3 fl areas k row.MgIntegerLe args h =
    three_args L.shapes k boolean_slot integer_slot integer_slot (RowGoal P table L x f x3 fl areas row.MgIntegerLe)
    (var_var_var L.shapes k Boolean Integer Integer (RowGoal P table L x f x3 fl areas row.MgIntegerLe)
    (λ d b c fd fb fc. less_or_equal P table L is x f x3 fl areas d b c (simple_var L.shapes x d Boolean fits fd) (simple_var L.shapes x b Integer
    fits fb) (simple_var L.shapes x c Integer fits fc))) args h
row_runs P table L is x fits f x3 fl areas k row.MgIntegerUnaryMinus args h =
    two_args L.shapes k integer_slot integer_slot (RowGoal P table L x f x3 fl areas row.MgIntegerUnaryMinus)
    (var_var L.shapes k Integer Integer (RowGoal P table L x f x3 fl areas row.MgIntegerUnaryMinus)
    (λ d b fd fb. minus P table L is x f x3 fl areas d b (simple_var L.shapes x d Integer fits fd) (simple_var L.shapes x b Integer fits fb))) args h
row_runs P table L is x fits f x3 fl areas k row.MgIntegerAdd args h =
    three_args L.shapes k integer_slot integer_slot integer_slot (RowGoal P table L x f x3 fl areas row.MgIntegerAdd)
    (var_var_var L.shapes k Integer Integer Integer (RowGoal P table L x f x3 fl areas row.MgIntegerAdd)
    (λ d b c fd fb fc. sum P table L is x f x3 fl areas d b c (simple_var L.shapes x d Integer fits fd) (simple_var L.shapes x b Integer fits fb)
    (simple_var L.shapes x c Integer fits fc))) args h
row_runs P table L is x fits f x3 fl areas k row.MgIntegerSubtract args h =
    three_args L.shapes k integer_slot integer_slot integer_slot (RowGoal P table L x f x3 fl areas row.MgIntegerSubtract)
    (var_var_var L.shapes k Integer Integer Integer (RowGoal P table L x f x3 fl areas row.MgIntegerSubtract)
    (λ d b c fd fb fc. difference P table L is x f x3 fl areas d b c (simple_var L.shapes x d Integer fits fd) (simple_var L.shapes x b Integer fits
    fb) (simple_var L.shapes x c Integer fits fc))) args h
row_runs P table L is x fits f x3 fl areas k row.MgIntegerMultiply args h =
    three_args L.shapes k integer_slot integer_slot integer_slot (RowGoal P table L x f x3 fl areas row.MgIntegerMultiply)
    (var_var_var L.shapes k Integer Integer Integer (RowGoal P table L x f x3 fl areas row.MgIntegerMultiply)
    (λ d b c fd fb fc. product P table L is x f x3 fl areas d b c (simple_var L.shapes x d Integer fits fd) (simple_var L.shapes x b Integer fits fb)
    (simple_var L.shapes x c Integer fits fc))) args h
row_runs P table L is x fits f x3 fl areas k row.MgBooleanOr args h =
    three_args L.shapes k boolean_slot boolean_slot boolean_slot (RowGoal P table L x f x3 fl areas row.MgBooleanOr)
    (var_var_var L.shapes k Boolean Boolean Boolean (RowGoal P table L x f x3 fl areas row.MgBooleanOr)
    (λ d b c fd fb fc.
    let vb = simple_var L.shapes x b Boolean fits fb in
    let vc = simple_var L.shapes x c Boolean fits fc in
    combined P table L is x f x3 fl areas Or d b c (is_true_value (value_at x b) || is_true_value (value_at x c)) (simple_var L.shapes x d Boolean
    fits fd) vb vc
    (λ g. or_items (item_of_value (value_at x b)) (item_of_value (value_at x c)) vb.range vc.range))) args h
row_runs P table L is x fits f x3 fl areas k row.MgBooleanAnd args h =
    three_args L.shapes k boolean_slot boolean_slot boolean_slot (RowGoal P table L x f x3 fl areas row.MgBooleanAnd)
    (var_var_var L.shapes k Boolean Boolean Boolean (RowGoal P table L x f x3 fl areas row.MgBooleanAnd)
    (λ d b c fd fb fc.
    let vb = simple_var L.shapes x b Boolean fits fb in
    let vc = simple_var L.shapes x c Boolean fits fc in
    combined P table L is x f x3 fl areas And d b c (is_true_value (value_at x b) && is_true_value (value_at x c)) (simple_var L.shapes x d Boolean
    fits fd) vb vc
    (λ g. and_items (item_of_value (value_at x b)) (item_of_value (value_at x c)) vb.range vc.range))) args h
row_runs P table L is x fits f x3 fl areas k row.MgBooleanNot args h =
    two_args L.shapes k boolean_slot boolean_slot (RowGoal P table L x f x3 fl areas row.MgBooleanNot)
    (var_var L.shapes k Boolean Boolean (RowGoal P table L x f x3 fl areas row.MgBooleanNot)
    (λ d b fd fb. opposite P table L is x f x3 fl areas d b (simple_var L.shapes x d Boolean fits fd) (simple_var L.shapes x b Boolean fits fb))) args h
row_runs P table L is x fits f x3 fl areas k row.MgIndexArray args h =
    three_args L.shapes k (shared Simple) (shared Array) integer_slot (RowGoal P table L x f x3 fl areas row.MgIndexArray)
    (λ a b c fa fb fc.
    one_array L.shapes k (λ b. RowGoal P table L x f x3 fl areas row.MgIndexArray (a ∷ b ∷ c ∷ []))
    (λ v n low few fv. var_var_one L.shapes k k Integer (λ d i. RowGoal P table L x f x3 fl areas row.MgIndexArray (d ∷ Var v ∷ i ∷ []))
    (λ d i fd fi.
    let vi = simple_var L.shapes x i Integer fits fi in
    indexing P table L is x f x3 fl areas d v i n k (item_of_value (value_at x i)) (simple_var L.shapes x d k fits fd) (array_var L.shapes x v n k
    fits low fv) vi (small n few) low refl vi.range)
    a c fa fc) b fb) args h
row_runs P table L is x fits f x3 fl areas k row.MgArrayElementAssignment args h =
    three_args L.shapes k (shared Array) integer_slot (shared Simple) (RowGoal P table L x f x3 fl areas row.MgArrayElementAssignment)
    (λ a b c fa fb fc.
    one_array L.shapes k (λ a. RowGoal P table L x f x3 fl areas row.MgArrayElementAssignment (a ∷ b ∷ c ∷ []))
    (λ v n low few fv. var_var_one L.shapes k Integer k (λ i d. RowGoal P table L x f x3 fl areas row.MgArrayElementAssignment (Var v ∷ i ∷ d ∷ []))
    (λ i d fi fd.
    let vi = simple_var L.shapes x i Integer fits fi in
    storing P table L is x f x3 fl areas v i d n k (item_of_value (value_at x i)) (array_var L.shapes x v n k fits low fv) vi (simple_var L.shapes x
    d k fits fd) (small n few) low refl vi.range)
    b c fb fc) a fa) args h
