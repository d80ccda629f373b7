-- A system that fits the form and breaks no rule is sound: all that its resolved form names exists.
use Rattle.std.proofs.Common.{◌≡◌, ℕ, zero, suc, ◌+◌, ◌-◌, ◌<◌, ◌≤◌, ◌^◌, max, Bool, true, false, not, cond, ltb, leb, List, [], ◌∷◌, ◌++◌, map, length, get_or}
use Rattle.std.{proofs.Common.{slice_get, Option, Some, None, All, unwrap_or, true≢false, refl, sym, ap, subst, ◌∙◌, arith}, specs.Prelude.{ℤ, pos, negsuc}}
use Rattle.std.{specs.Prelude.IsTrue, specs.List.flat_map, specs.Option.{is_none, option_map}, proofs.lemmas.Bool.{ltb-true, ltb-false, leb-true, lt-ltb}}
use Rattle.std.{proofs.lemmas.Bool.{not-false, and_parts}, proofs.lemmas.List.{length-map, length-append, get_or-map}, proofs.lemmas.List.Elements.All-nil}
use Rattle.std.{proofs.lemmas.List.Elements.{All-cons, All-map}, proofs.lemmas.List.Quantifiers.position-Some, proofs.lemmas.Option.same_Some}
use Rattle.std.proofs.lemmas.Option.{slice_get-get_or, cond_some}
use Rattle.stack_text.{proofs.OptionLaws.bind_some, specs.declared.name.Named.Named, specs.Trees.node_count, specs.declared.breach.Breach.Breach}
use Rattle.stack_text.{specs.Breaches.when, specs.Options.◌>>=◌, proofs.SharedLaws.{rule_fails, some_of, append_none, get_map}}
use Rattle.fm_words.specs.Word.{is_int, unsigned_32, signed_32}
use Rattle.piton_words.specs.declared.word.Word.{Word}
use Rattle.piton_words.specs.declared.word.Word.TheVariants as word
use Rattle.piton_syntax.{specs.declared.argument.ArgKind.ArgKind, specs.declared.argument.ArgText.ArgText, specs.declared.argument.Arguments.TheVariants.One}
use Rattle.piton_syntax.{specs.declared.argument.Arguments.TheVariants.{TestAndLabel, OneOrMore}, specs.declared.op.PitonOp.PitonOp}
use Rattle.piton_syntax.{specs.declared.test_kind.TestFamily.TestFamily, specs.declared.word_text.Number.Number, specs.declared.word_text.WordText.WordText}
use Rattle.piton_syntax.{specs.declared.word_text.WordItem.WordItem, specs.Fits.{FitsArgument, FitsArguments, FitsInstruction, FitsProgram, FitsForm}}
use Rattle.piton_syntax.{specs.Operations.{row_of, op_arguments}, specs.Systems.{InstrOf, ProgramOf, AreaOf, SystemOf}, specs.Printed.tree_of}
use Rattle.piton_syntax.specs.declared.argument.ArgKind.TheVariants as kind
use Rattle.piton_syntax.specs.declared.argument.ArgText.TheVariants as text
use Rattle.piton_syntax.specs.declared.op.PitonOp.TheVariants as op
use Rattle.piton_syntax.specs.declared.test_kind.TestFamily.TheVariants as family
use Rattle.piton_syntax.specs.declared.word_text.WordItem.TheVariants as item
use Rattle.piton_check.{proofs.CountLaws.few_parts, specs.declared.resolved.ResolvedArg.ResolvedArg, specs.Declarations.{Declaration, area_name, program_name}}
use Rattle.piton_check.specs.Declarations.{formal_name, temporary_name, label_name, is_named, area_names, program_names, local_names, label_names, first_of}
use Rattle.piton_check.{specs.Declarations.repeats, specs.Instruction.{Instruction, instruction_of, instruction_view, program_view, system_view, with_word}}
use Rattle.piton_check.{specs.Instruction.{with_number, with_local, with_place, with_area, with_program, with_test, place_of}, specs.Meaning.position_in}
use Rattle.piton_check.{specs.Meaning.{area_lengths, program_lengths, word_of, name_kind, count_of}, specs.Resolved.{resolved, resolved_word}}
use Rattle.piton_check.specs.Resolved.{resolved_temporary, resolved_area, resolved_argument, resolved_instruction, resolved_program, resolved_number}
use Rattle.piton_check.specs.Sound.{Exists, IsPlace, IsLocal, IsArea, IsProgram, IsCount, IsPlaced, IsEnd, IsSoundProgram, IsMain, IsSound, local_count}
use Rattle.piton_check.specs.Violations.{word_breaches, temporary_breaches, area_breaches, argument_breaches, instruction_breaches, is_end, end_breaches}
use Rattle.piton_check.specs.Violations.{program_breaches, main_of, main_breaches, is_within, first_frame, size_breaches, name_breaches, part_breaches}
use Rattle.piton_check.specs.Violations.{violations}
use Rattle.piton_check.specs.declared.resolved.ResolvedArg.TheVariants as arg
use Rattle.piton_check.specs.Instruction as seen

-- the views of a system and of a program of it
abbrev view_of : SystemOf → seen.SystemView
view_of s = system_view (resolved s)

abbrev view_in : SystemOf → ProgramOf → seen.ProgramView
view_in s p = program_view (resolved_program s p)

-- ---- lists

none_each : {X : Type 0} (f : X → List Breach) (xs : List X) → flat_map f xs ≡ [] → All (λ x. f x ≡ []) xs
none_each f [] h = All-nil (λ x. f x ≡ [])
none_each f (x ∷ xs) h = let p = append_none (f x) (flat_map f xs) h in All-cons (λ y. f y ≡ []) x xs p.0 (none_each f xs p.1)

-- ---- what means something

map_some : {X Y : Type 0} (f : X → Y) (o : Option X) (y : Y) → option_map f o ≡ Some y → (x : X) × (o ≡ Some x) × (f x ≡ y)
map_some f None y h = absurd cc
map_some f (Some x) y h = (x, refl, cc)

first_within : (ds : List Declaration) (name : List ℕ) (i : ℕ) → first_of ds name ≡ Some i → i < length ds
first_within ds name i h = (position-Some (is_named name) ds i None h).0

natural_below : (z : ℤ) (n : ℕ) → unsigned_32 z ≡ Some n → n < 2 ^ 32
natural_below (pos m) n h = let t = cond_some (ltb m (2 ^ 32)) m n h in let e : m ≡ n = t.1 in omega (arith, ltb-true m (2 ^ 32) t.0, e)
natural_below (negsuc m) n h = absurd cc

position_below : (count : ℕ) (z : ℤ) (n : ℕ) → position_in count z ≡ Some n → n < count
position_below count z n h =
    let b = bind_some (unsigned_32 z) (λ m. cond (ltb m count) (Some m) None) n h in
    let t = cond_some (ltb b.0 count) b.0 n b.2 in
    let e : b.0 ≡ n = t.1 in
    omega (arith, ltb-true b.0 count t.0, e)

count_below : (z : ℤ) (n : ℕ) → count_of z ≡ Some n → n ≤ 65536
count_below z n h =
    let b = bind_some (unsigned_32 z) (λ m. cond (leb m 65536) (Some m) None) n h in
    let t = cond_some (leb b.0 65536) b.0 n b.2 in
    let e : b.0 ≡ n = t.1 in
    omega (arith, leb-true b.0 65536 t.0, e)

-- ---- words

area_length_is : (s : SystemOf) (xs : List AreaOf) (i : ℕ) → get_or (map (λ a. length a.words) xs) i 0 ≡ length (get_or (map (resolved_area s) xs) i [])
area_length_is s [] i = refl
area_length_is s (x ∷ xs) zero = sym (length-map x.words (resolved_word s))
area_length_is s (x ∷ xs) (suc i) = area_length_is s xs i

instructions_length : (s : SystemOf) (p : ProgramOf) → length (view_in s p).instructions ≡ length p.instrs
instructions_length s p = length-map (map (resolved_instruction s p) p.instrs) instruction_view ∙ length-map p.instrs (resolved_instruction s p)

program_length_is : (s : SystemOf) (xs : List ProgramOf) (i : ℕ) → get_or (map (λ p. length p.instrs) xs) i 0
    ≡ length (get_or (map (λ p. p.instructions) (map program_view (map (resolved_program s) xs))) i [])
program_length_is s [] i = refl
program_length_is s (x ∷ xs) zero = sym (instructions_length s x)
program_length_is s (x ∷ xs) (suc i) = program_length_is s xs i

area_within : (s : SystemOf) (name : List ℕ) (i : ℕ) → first_of (area_names s) name ≡ Some i → IsArea (view_of s) i
area_within s name i h = omega (arith, first_within (area_names s) name i h, length-map s.areas area_name, length-map s.areas (resolved_area s))

program_within : (s : SystemOf) (name : List ℕ) (i : ℕ) → first_of (program_names s) name ≡ Some i → IsProgram (view_of s) i
program_within s name i h =
    omega (
      arith,
      first_within (program_names s) name i h,
      length-map s.programs program_name,
      length-map s.programs (resolved_program s),
      length-map (map (resolved_program s) s.programs) program_view,
    )

word_exists : (s : SystemOf) (i : WordItem) (w : Word) → word_of s i ≡ Some w → Exists (view_of s) w
word_exists s (item.Int n) w h =
    let m = map_some word.Int (signed_32 n.number) w h in
    let t = cond_some (is_int n.number) n.number m.0 m.1 in
    subst (Exists (view_of s)) m.2 (subst (λ (z : ℤ). IsTrue (is_int z)) t.1 t.0)
word_exists s (item.Nat n) w h = let m = map_some word.Nat (unsigned_32 n.number) w h in subst (Exists (view_of s)) m.2 (natural_below n.number m.0 m.1)
word_exists s (item.Bitv n) w h = let m = map_some word.Bitv (unsigned_32 n.number) w h in subst (Exists (view_of s)) m.2 (natural_below n.number m.0 m.1)
word_exists s (item.Bool b) w h = let e : word.Bool b ≡ w = cc in subst (Exists (view_of s)) e tt
word_exists s (item.Addr area n) w h =
    let a = bind_some (first_of (area_names s) area.name) (λ i. position_in (get_or (area_lengths s) i 0) n.number >>= λ o. Some (word.Addr i o)) w h in
    let o = bind_some (position_in (get_or (area_lengths s) a.0 0) n.number) (λ o. Some (word.Addr a.0 o)) w a.2 in
    let e : word.Addr a.0 o.0 ≡ w = same_Some (word.Addr a.0 o.0) w o.2 in
    let inside : o.0 < get_or (area_lengths s) a.0 0 = position_below (get_or (area_lengths s) a.0 0) n.number o.0 o.1 in
    subst (Exists (view_of s)) e (area_within s area.name a.0 a.1, subst (λ (count : ℕ). o.0 < count) (area_length_is s s.areas a.0) inside)
word_exists s (item.Pc program n) w h =
    let a = bind_some (first_of (program_names s) program.name) (λ i. position_in (get_or (program_lengths s) i 0) n.number >>= λ o. Some (word.Pc i o)) w h in
    let o = bind_some (position_in (get_or (program_lengths s) a.0 0) n.number) (λ o. Some (word.Pc a.0 o)) w a.2 in
    let e : word.Pc a.0 o.0 ≡ w = same_Some (word.Pc a.0 o.0) w o.2 in
    let inside : o.0 < get_or (program_lengths s) a.0 0 = position_below (get_or (program_lengths s) a.0 0) n.number o.0 o.1 in
    subst (Exists (view_of s)) e (program_within s program.name a.0 a.1, subst (λ (count : ℕ). o.0 < count) (program_length_is s s.programs a.0) inside)
word_exists s (item.Subr program) w h =
    let m = map_some word.Subr (first_of (program_names s) program.name) w h in
    subst (Exists (view_of s)) m.2 (program_within s program.name m.0 m.1)

word_sound : (s : SystemOf) (w : WordText) → word_breaches s w ≡ [] → Exists (view_of s) (resolved_word s w)
word_sound s w h =
    let m = some_of (word_of s w.item) (rule_fails (is_none (word_of s w.item)) w.place 11 h) in
    subst (λ (o : Option Word). Exists (view_of s) (unwrap_or o (word.Bool false))) (sym m.1) (word_exists s w.item m.0 m.1)

words_sound : (s : SystemOf) (ws : List WordText) → flat_map (word_breaches s) ws ≡ [] → All (Exists (view_of s)) (map (resolved_word s) ws)
words_sound s ws h = let each = none_each (word_breaches s) ws h in All-map (Exists (view_of s)) (resolved_word s) ws
    (λ k d lt. word_sound s (get_or ws k d) (each k d lt))

temporaries_sound : (s : SystemOf) (ts : List (Named × WordText)) → flat_map (temporary_breaches s) ts ≡ []
    → All (Exists (view_of s)) (map (resolved_temporary s) ts)
temporaries_sound s ts h =
    let each = none_each (temporary_breaches s) ts h in
    All-map (Exists (view_of s)) (resolved_temporary s) ts (λ k d lt. word_sound s (get_or ts k d).1 (each k d lt))

-- ---- arguments

-- a name that means something
name_meant : (ds : List Declaration) (make : ℕ → ResolvedArg) (name : List ℕ) (place rule : ℕ)
    → when (is_none (option_map make (first_of ds name))) place rule ≡ [] →
    (i : ℕ) × (unwrap_or (option_map make (first_of ds name)) (arg.Number 0) ≡ make i) × (i < length ds)
name_meant ds make name place rule h =
    let m = some_of (option_map make (first_of ds name)) (rule_fails (is_none (option_map make (first_of ds name))) place rule h) in
    let f = map_some make (first_of ds name) m.0 m.1 in
    (f.0, ap (λ (o : Option ResolvedArg). unwrap_or o (arg.Number 0)) m.1 ∙ sym f.2, first_within ds name f.0 f.1)

locals_length : (s : SystemOf) (p : ProgramOf) → length (local_names p) ≡ local_count (view_in s p)
locals_length s p =
    omega (
      arith,
      length-append (map formal_name p.formals) (map temporary_name p.temporaries),
      length-map p.formals formal_name,
      length-map p.temporaries temporary_name,
      length-map p.temporaries (resolved_temporary s),
    )

labels_length : (s : SystemOf) (p : ProgramOf) → length (label_names p) ≡ length (view_in s p).instructions
labels_length s p = length-map p.instrs label_name ∙ sym (instructions_length s p)

areas_length : (s : SystemOf) → length (area_names s) ≡ length (view_of s).areas
areas_length s = length-map s.areas area_name ∙ sym (length-map s.areas (resolved_area s))

programs_length : (s : SystemOf) → length (program_names s) ≡ length (view_of s).programs
programs_length s = length-map s.programs program_name ∙ sym
    (length-map (map (resolved_program s) s.programs) program_view ∙ length-map s.programs (resolved_program s))

module _ (s : SystemOf) (p : ProgramOf) where
  none_one : (k : ArgKind) (a : ArgText) → flat_map (argument_breaches s p k) (a ∷ []) ≡ [] → argument_breaches s p k a ≡ []
  none_one k a h = (append_none (argument_breaches s p k a) [] h).0

  one_local : (make : ℕ → Instruction) (args : List ArgText) → FitsArguments (One kind.Local) args → flat_map (argument_breaches s p kind.Local) args ≡ [] →
      (i : ℕ) × (with_local make (map (resolved_argument s p kind.Local) args) ≡ make i) × IsLocal (view_in s p) i
  one_local make (text.Name n ∷ []) fits h =
      let m = name_meant (local_names p) arg.Local n.name n.place 9 (none_one kind.Local (text.Name n) h) in
      (m.0, ap (λ (a : ResolvedArg). with_local make (a ∷ [])) m.1, omega (arith, m.2, locals_length s p))
  one_local make (a ∷ []) fits h = absurd fits
  one_local make [] fits h = absurd fits
  one_local make (a ∷ b ∷ args) fits h = absurd fits

  one_area : (make : ℕ → Instruction) (args : List ArgText) → FitsArguments (One kind.Area) args → flat_map (argument_breaches s p kind.Area) args ≡ [] →
      (i : ℕ) × (with_area make (map (resolved_argument s p kind.Area) args) ≡ make i) × IsArea (view_of s) i
  one_area make (text.Name n ∷ []) fits h =
      let m = name_meant (area_names s) arg.Area n.name n.place 10 (none_one kind.Area (text.Name n) h) in
      (m.0, ap (λ (a : ResolvedArg). with_area make (a ∷ [])) m.1, omega (arith, m.2, areas_length s))
  one_area make (a ∷ []) fits h = absurd fits
  one_area make [] fits h = absurd fits
  one_area make (a ∷ b ∷ args) fits h = absurd fits

  one_program : (make : ℕ → Instruction) (args : List ArgText) → FitsArguments (One kind.Program) args
      → flat_map (argument_breaches s p kind.Program) args ≡ [] →
      (i : ℕ) × (with_program make (map (resolved_argument s p kind.Program) args) ≡ make i) × IsProgram (view_of s) i
  one_program make (text.Name n ∷ []) fits h =
      let m = name_meant (program_names s) arg.Program n.name n.place 8 (none_one kind.Program (text.Name n) h) in
      (m.0, ap (λ (a : ResolvedArg). with_program make (a ∷ [])) m.1, omega (arith, m.2, programs_length s))
  one_program make (a ∷ []) fits h = absurd fits
  one_program make [] fits h = absurd fits
  one_program make (a ∷ b ∷ args) fits h = absurd fits

  one_label : (make : ℕ → Instruction) (args : List ArgText) → FitsArguments (One kind.Label) args → flat_map (argument_breaches s p kind.Label) args ≡ [] →
      (i : ℕ) × (with_place make (map (resolved_argument s p kind.Label) args) ≡ make i) × IsPlace (view_in s p) i
  one_label make (text.Name n ∷ []) fits h =
      let m = name_meant (label_names p) arg.Place n.name n.place 7 (none_one kind.Label (text.Name n) h) in
      (m.0, ap (λ (a : ResolvedArg). with_place make (a ∷ [])) m.1, omega (arith, m.2, labels_length s p))
  one_label make (a ∷ []) fits h = absurd fits
  one_label make [] fits h = absurd fits
  one_label make (a ∷ b ∷ args) fits h = absurd fits

  one_count : (make : ℕ → Instruction) (args : List ArgText) → FitsArguments (One kind.Count) args → flat_map (argument_breaches s p kind.Count) args ≡ [] →
      (i : ℕ) × (with_number make (map (resolved_argument s p kind.Count) args) ≡ make i) × IsCount i
  one_count make (text.Number n ∷ []) fits h =
      let m = some_of (count_of n.number) (rule_fails (is_none (count_of n.number)) n.place 13 (none_one kind.Count (text.Number n) h)) in
      (m.0, ap (λ (o : Option ℕ). make (unwrap_or o 0)) m.1, count_below n.number m.0 m.1)
  one_count make (a ∷ []) fits h = absurd fits
  one_count make [] fits h = absurd fits
  one_count make (a ∷ b ∷ args) fits h = absurd fits

  one_word : (make : Word → Instruction) (args : List ArgText) → FitsArguments (One kind.Word) args → flat_map (argument_breaches s p kind.Word) args ≡ [] →
      (w : Word) × (with_word make (map (resolved_argument s p kind.Word) args) ≡ make w) × Exists (view_of s) w
  one_word make (text.Word w ∷ []) fits h = (resolved_word s w, refl, word_sound s w (none_one kind.Word (text.Word w) h))
  one_word make (a ∷ []) fits h = absurd fits
  one_word make [] fits h = absurd fits
  one_word make (a ∷ b ∷ args) fits h = absurd fits

  test_label : (f : TestFamily) (args : List ArgText) → FitsArguments (TestAndLabel f) args → flat_map (argument_breaches s p kind.Label) args ≡ [] →
      IsPlaced (view_of s) (view_in s p) (with_test f (map (resolved_argument s p kind.Label) args))
  test_label f (text.Test t ∷ text.Name n ∷ []) fits h =
      let m = name_meant (label_names p) arg.Place n.name n.place 7 (none_one kind.Label (text.Name n) h) in
      subst (λ (a : ResolvedArg). IsPlaced (view_of s) (view_in s p) (with_test f (arg.Test t ∷ a ∷ []))) (sym m.1)
      (fits.0, omega (arith, m.2, labels_length s p))
  test_label f args fits h = absurd fits

  a_label : (a : ArgText) → FitsArgument kind.Label a → argument_breaches s p kind.Label a ≡ []
      → IsPlace (view_in s p) (place_of (resolved_argument s p kind.Label a))
  a_label (text.Name n) fits h =
      let m = name_meant (label_names p) arg.Place n.name n.place 7 h in
      subst (λ (a : ResolvedArg). IsPlace (view_in s p) (place_of a)) (sym m.1) (omega (arith, m.2, labels_length s p))
  a_label (text.Number n) fits h = absurd fits
  a_label (text.Word w) fits h = absurd fits
  a_label (text.Test t) fits h = absurd fits

  some_labels : (args : List ArgText) → FitsArguments (OneOrMore kind.Label) args → flat_map (argument_breaches s p kind.Label) args ≡ [] →
      IsPlaced (view_of s) (view_in s p) (seen.JumpCase (map place_of (map (resolved_argument s p kind.Label) args)))
  some_labels [] fits h = absurd fits
  some_labels (a ∷ args) fits h =
      let each = none_each (argument_breaches s p kind.Label) (a ∷ args) h in (
        omega arith,
        All-map (IsPlace (view_in s p)) place_of (map (resolved_argument s p kind.Label) (a ∷ args))
            (All-map (λ r. IsPlace (view_in s p) (place_of r)) (resolved_argument s p kind.Label) (a ∷ args)
            (λ k d lt. a_label (get_or (a ∷ args) k d) (fits k d lt) (each k d lt))),
      )

  -- an instruction that is made of what it names
  placed : {X : Type 0} (P : X → Type 0) (make : X → Instruction) (i : Instruction) → ((x : X) → P x → IsPlaced (view_of s) (view_in s p) (make x))
      → (x : X) × (i ≡ make x) × P x → IsPlaced (view_of s) (view_in s p) i
  placed P make i good m = subst (IsPlaced (view_of s) (view_in s p)) (sym m.1) (good m.0 m.2)

  instruction_sound : (o : PitonOp) (args : List ArgText) → FitsArguments (op_arguments o) args
      → flat_map (argument_breaches s p (name_kind (op_arguments o))) args ≡ [] →
      IsPlaced (view_of s) (view_in s p) (instruction_of o (map (resolved_argument s p (name_kind (op_arguments o))) args))
  unfolding row_of
  instruction_sound op.PushConstant args fits h = placed (Exists (view_of s)) seen.PushConstant
      (instruction_of op.PushConstant (map (resolved_argument s p (name_kind (op_arguments op.PushConstant))) args)) (λ x k. k)
      (one_word seen.PushConstant args fits h)
  instruction_sound op.PushLocal args fits h = placed (IsLocal (view_in s p)) seen.PushLocal
      (instruction_of op.PushLocal (map (resolved_argument s p (name_kind (op_arguments op.PushLocal))) args)) (λ x k. k)
      (one_local seen.PushLocal args fits h)
  instruction_sound op.PopLocal args fits h = placed (IsLocal (view_in s p)) seen.PopLocal
      (instruction_of op.PopLocal (map (resolved_argument s p (name_kind (op_arguments op.PopLocal))) args)) (λ x k. k)
      (one_local seen.PopLocal args fits h)
  instruction_sound op.SetLocal args fits h = placed (IsLocal (view_in s p)) seen.SetLocal
      (instruction_of op.SetLocal (map (resolved_argument s p (name_kind (op_arguments op.SetLocal))) args)) (λ x k. k)
      (one_local seen.SetLocal args fits h)
  instruction_sound op.PushGlobal args fits h = placed (IsArea (view_of s)) seen.PushGlobal
      (instruction_of op.PushGlobal (map (resolved_argument s p (name_kind (op_arguments op.PushGlobal))) args)) (λ x k. k)
      (one_area seen.PushGlobal args fits h)
  instruction_sound op.PopGlobal args fits h = placed (IsArea (view_of s)) seen.PopGlobal
      (instruction_of op.PopGlobal (map (resolved_argument s p (name_kind (op_arguments op.PopGlobal))) args)) (λ x k. k)
      (one_area seen.PopGlobal args fits h)
  instruction_sound op.SetGlobal args fits h = placed (IsArea (view_of s)) seen.SetGlobal
      (instruction_of op.SetGlobal (map (resolved_argument s p (name_kind (op_arguments op.SetGlobal))) args)) (λ x k. k)
      (one_area seen.SetGlobal args fits h)
  instruction_sound op.PushTempStkIndex args fits h = placed IsCount seen.PushTempStkIndex
      (instruction_of op.PushTempStkIndex (map (resolved_argument s p (name_kind (op_arguments op.PushTempStkIndex))) args)) (λ x k. k)
      (one_count seen.PushTempStkIndex args fits h)
  instruction_sound op.PopStar args fits h = placed IsCount seen.PopStar
      (instruction_of op.PopStar (map (resolved_argument s p (name_kind (op_arguments op.PopStar))) args)) (λ x k. k)
      (one_count seen.PopStar args fits h)
  instruction_sound op.Jump args fits h = placed (IsPlace (view_in s p)) seen.Jump
      (instruction_of op.Jump (map (resolved_argument s p (name_kind (op_arguments op.Jump))) args)) (λ x k. k) (one_label seen.Jump args fits h)
  instruction_sound op.JumpIfTempStkFull args fits h = placed (IsPlace (view_in s p)) seen.JumpIfTempStkFull
      (instruction_of op.JumpIfTempStkFull (map (resolved_argument s p (name_kind (op_arguments op.JumpIfTempStkFull))) args)) (λ x k. k)
      (one_label seen.JumpIfTempStkFull args fits h)
  instruction_sound op.JumpIfTempStkEmpty args fits h = placed (IsPlace (view_in s p)) seen.JumpIfTempStkEmpty
      (instruction_of op.JumpIfTempStkEmpty (map (resolved_argument s p (name_kind (op_arguments op.JumpIfTempStkEmpty))) args)) (λ x k. k)
      (one_label seen.JumpIfTempStkEmpty args fits h)
  instruction_sound op.Pushj args fits h = placed (IsPlace (view_in s p)) seen.Pushj
      (instruction_of op.Pushj (map (resolved_argument s p (name_kind (op_arguments op.Pushj))) args)) (λ x k. k) (one_label seen.Pushj args fits h)
  instruction_sound op.Call args fits h = placed (IsProgram (view_of s)) seen.Call
      (instruction_of op.Call (map (resolved_argument s p (name_kind (op_arguments op.Call))) args)) (λ x k. k) (one_program seen.Call args fits h)
  instruction_sound op.JumpCase args fits h = some_labels args fits h
  instruction_sound op.TestNatAndJump args fits h = test_label family.Nat args fits h
  instruction_sound op.TestIntAndJump args fits h = test_label family.Int args fits h
  instruction_sound op.TestBoolAndJump args fits h = test_label family.Bool args fits h
  instruction_sound op.TestBitvAndJump args fits h = test_label family.Bitv args fits h
  instruction_sound o args fits h = tt

  -- the last instruction
  end_sound : (o : PitonOp) (args : List ArgText) → is_end o ≡ true → FitsArguments (op_arguments o) args
      → flat_map (argument_breaches s p (name_kind (op_arguments o))) args ≡ [] →
      IsEnd (instruction_of o (map (resolved_argument s p (name_kind (op_arguments o))) args))
  unfolding row_of
  end_sound op.Ret args is fits h = tt
  end_sound op.Popj args is fits h = tt
  end_sound op.JumpCase args is fits h = tt
  end_sound op.Jump args is fits h = let m = one_label seen.Jump args fits h in subst IsEnd (sym m.1) tt
  end_sound o args is fits h = absurd (true≢false (sym is))

  last_end : (o : PitonOp) (place : ℕ) → when (not (is_end o)) place 12 ≡ [] → is_end o ≡ true
  last_end o place h = not-false (is_end o) (rule_fails (not (is_end o)) place 12 h)

  program_sound : FitsProgram p → program_breaches s p ≡ [] → IsSoundProgram (view_of s) (view_in s p)
  program_sound fits none =
      let a = append_none (repeats 5 [] (local_names p) ++ repeats 6 [] (label_names p) ++ flat_map (temporary_breaches s) p.temporaries
      ++ flat_map (instruction_breaches s p) p.instrs) (end_breaches (slice_get p.instrs (length p.instrs - 1))) none in
      let b = append_none (repeats 5 [] (local_names p) ++ repeats 6 [] (label_names p) ++ flat_map (temporary_breaches s) p.temporaries)
      (flat_map (instruction_breaches s p) p.instrs) a.0 in
      let c = append_none (repeats 5 [] (local_names p) ++ repeats 6 [] (label_names p)) (flat_map (temporary_breaches s) p.temporaries) b.0 in
      let each = none_each (instruction_breaches s p) p.instrs b.1 in
      record {
        temporaries = temporaries_sound s p.temporaries c.1;
        instructions = All-map (IsPlaced (view_of s) (view_in s p)) instruction_view (map (resolved_instruction s p) p.instrs)
            (All-map (λ i. IsPlaced (view_of s) (view_in s p) (instruction_view i)) (resolved_instruction s p) p.instrs
            (λ k d lt. instruction_sound (get_or p.instrs k d).op (get_or p.instrs k d).args (fits.instrs k d lt).args (each k d lt)));
        some_instructions = omega (arith, fits.some_instrs, instructions_length s p);
        last = last_sound p.instrs fits.some_instrs a.1 fits.instrs each;
        few_instructions = omega (arith, fits.few_instrs, instructions_length s p);
        few_locals = omega (arith, fits.few_locals, length-map p.temporaries (resolved_temporary s));
      }
    where
      last_sound : (is : List InstrOf) → 0 < length is → end_breaches (slice_get is (length is - 1)) ≡ [] → All FitsInstruction is
          → All (λ i. instruction_breaches s p i ≡ []) is →
          IsEnd (get_or (map instruction_view (map (resolved_instruction s p) is))
          (length (map instruction_view (map (resolved_instruction s p) is)) - 1) seen.NoOp)
      last_sound [] some_ ends fit none = absurd (omega (arith, some_))
      last_sound (j ∷ js) some_ ends fit none =
          let k : ℕ = length (j ∷ js) - 1 in
          let lt : k < length (j ∷ js) = omega arith in
          let i = get_or (j ∷ js) k j in
          let ends_at : end_breaches (Some i) ≡ [] = subst (λ (o : Option InstrOf). end_breaches o ≡ []) (slice_get-get_or (j ∷ js) k j lt) ends in
          let good : IsEnd (instruction_view (resolved_instruction s p i)) =
          end_sound i.op i.args (last_end i.op i.place ends_at) (fit k j lt).args (none k j lt) in
          let long : length (map instruction_view (map (resolved_instruction s p) (j ∷ js))) ≡ length (j ∷ js) =
          length-map (map (resolved_instruction s p) (j ∷ js)) instruction_view ∙ length-map (j ∷ js) (resolved_instruction s p) in
          let under : k < length (map (resolved_instruction s p) (j ∷ js)) = omega (arith, lt, length-map (j ∷ js) (resolved_instruction s p)) in
          let at_k : get_or (map instruction_view (map (resolved_instruction s p) (j ∷ js))) k seen.NoOp ≡ instruction_view (resolved_instruction s p i) =
          get_or-map instruction_view (map (resolved_instruction s p) (j ∷ js)) k (resolved_instruction s p j) seen.NoOp under
          ∙ ap instruction_view (get_or-map (resolved_instruction s p) (j ∷ js) k j (resolved_instruction s p j) lt) in
          subst (λ (n : ℕ). IsEnd (get_or (map instruction_view (map (resolved_instruction s p) (j ∷ js))) (n - 1) seen.NoOp)) (sym long)
          (subst IsEnd (sym at_k) good)

-- ---- the system

within_number : (low high : ℕ) (z : ℤ) → high ≤ 2 ^ 31 → is_within low high z ≡ true → (low ≤ resolved_number z) × (resolved_number z ≤ high)
within_number low high (negsuc n) small h = absurd cc
within_number low high (pos n) small h =
    let p = and_parts (leb low n) (leb n high) h in
    let above : low ≤ n = leb-true low n p.0 in
    let below : n ≤ high = leb-true n high p.1 in
    let lt : n < 2 ^ 32 = omega (arith, below, small) in
    let value : resolved_number (pos n) ≡ n = ap (λ (b : Bool). unwrap_or (cond b (Some n) None) 0) (lt-ltb n (2 ^ 32) lt) in
    (omega (arith, value, above), omega (arith, value, below))

size_sound : (low high : ℕ) (n : Number) → high ≤ 2 ^ 31 → when (not (is_within low high n.number)) n.place 14 ≡ [] → (low ≤ resolved_number n.number)
    × (resolved_number n.number ≤ high)
size_sound low high n small h =
    within_number low high n.number small (not-false (is_within low high n.number) (rule_fails (not (is_within low high n.number)) n.place 14 h))

no_formals : {X : Type 0} (xs : List X) (place : ℕ) → when (ltb 0 (length xs)) place 4 ≡ [] → length xs ≡ 0
no_formals xs place h = let le : length xs ≤ 0 = ltb-false 0 (length xs) (rule_fails (ltb 0 (length xs)) place 4 h) in omega (arith, le)

main_sound : (s : SystemOf) → main_breaches s (main_of s) ≡ [] → first_frame (main_of s) ≤ (view_of s).ctrl → (p : seen.ProgramView) × IsMain (view_of s) p
main_sound s none room = by_main (main_of s) refl none room
  where
    by_main : (found : Option ProgramOf) → main_of s ≡ found → main_breaches s found ≡ [] → first_frame found ≤ (view_of s).ctrl
        → (p : seen.ProgramView) × IsMain (view_of s) p
    by_main None e h r = absurd cc
    by_main (Some p) e h r =
        let b = bind_some (first_of (program_names s) s.main.name) (slice_get s.programs) p e in
        let main_is : (view_of s).main ≡ b.0 = ap (λ (o : Option ℕ). unwrap_or o 0) b.1 in
        let there : slice_get (view_of s).programs b.0 ≡ Some (view_in s p) =
        get_map program_view (map (resolved_program s) s.programs) b.0 (resolved_program s p) (get_map (resolved_program s) s.programs b.0 p b.2) in
        let frame : 2 + length p.temporaries ≤ (view_of s).ctrl = r in (
          view_in s p,
          record {
            is_named = ap (slice_get (view_of s).programs) main_is ∙ there;
            no_formals = no_formals p.formals p.formals_place h;
            has_room = omega (arith, frame, length-map p.temporaries (resolved_temporary s));
          },
        )

-- a system that fits the form and breaks no rule
pub is_sound : (s : SystemOf) → FitsForm s → node_count (tree_of s) ≤ 2 ^ 31 → violations s ≡ [] → IsSound (view_of s)
is_sound s fits few none =
    let parts : part_breaches s ≡ [] = (append_none (name_breaches s) (part_breaches s) none).1 in
    let a = append_none (main_breaches s (main_of s) ++ size_breaches s ++ flat_map (area_breaches s) s.areas ++ flat_map (word_breaches s) s.stack)
    (flat_map (program_breaches s) s.programs) parts in
    let b = append_none (main_breaches s (main_of s) ++ size_breaches s ++ flat_map (area_breaches s) s.areas) (flat_map (word_breaches s) s.stack) a.0 in
    let c = append_none (main_breaches s (main_of s) ++ size_breaches s) (flat_map (area_breaches s) s.areas) b.0 in
    let d = append_none (main_breaches s (main_of s)) (size_breaches s) c.0 in
    let ctrl_breach = when (not (is_within (first_frame (main_of s)) 65536 s.ctrl.number)) s.ctrl.place 14 in
    let temp_breach = when (not (is_within (max (length s.stack) 1) 65536 s.temp.number)) s.temp.place 14 in
    let base_breach = when (not (is_within 0 (2 ^ 31) s.base.number)) s.base.place 14 in
    let e = append_none (ctrl_breach ++ temp_breach) base_breach d.1 in
    let f = append_none ctrl_breach temp_breach e.0 in
    let ctrl = size_sound (first_frame (main_of s)) 65536 s.ctrl (omega arith) f.0 in
    let temp = size_sound (max (length s.stack) 1) 65536 s.temp (omega arith) f.1 in
    let base = size_sound 0 (2 ^ 31) s.base (omega arith) e.1 in
    let areas = none_each (area_breaches s) s.areas c.1 in
    let programs = none_each (program_breaches s) s.programs a.1 in
    record {
      main = main_sound s d.0 ctrl.0;
      few_ctrl = ctrl.1;
      some_temp = omega (arith, temp.0);
      few_temp = temp.1;
      stack_fits = omega (arith, temp.0, length-map s.stack (resolved_word s));
      low_base = base.1;
      areas = All-map (All (Exists (view_of s))) (resolved_area s) s.areas (λ k z lt. words_sound s (get_or s.areas k z).words (areas k z lt));
      some_words = All-map (λ words. 0 < length words) (resolved_area s) s.areas
          (λ k z lt. omega (arith, (fits.areas k z lt).some_words, length-map (get_or s.areas k z).words (resolved_word s)));
      stack = words_sound s s.stack b.1;
      programs = All-map (IsSoundProgram (view_of s)) program_view (map (resolved_program s) s.programs)
          (All-map (λ p. IsSoundProgram (view_of s) (program_view p)) (resolved_program s) s.programs
          (λ k z lt. program_sound s (get_or s.programs k z) (fits.programs k z lt) (programs k z lt)));
      few_areas = omega (arith, fits.few_areas, length-map s.areas (resolved_area s));
      few_programs =
          omega (arith, fits.few_programs, length-map s.programs (resolved_program s), length-map (map (resolved_program s) s.programs) program_view);
      few_words = few_parts s few;
    }
