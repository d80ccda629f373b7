-- Places change nothing.
use Rattle.std.proofs.Common.{◌≡◌, ℕ, ◌+◌, ◌-◌, max, List, [], ◌∷◌, ◌++◌, map, length, get_or, Bool, true, false, not, cond, nat_lt, Option, Some, None}
use Rattle.std.{proofs.Common.{option_map, refl, sym, ap, ap₂, ◌∙◌, subst}, specs.Prelude.{is_some, slice_get, unwrap_or}, specs.Option.is_none}
use Rattle.std.{specs.List.{flat_map, position_or_len}, proofs.lemmas.List.{length-map, map-append}, proofs.lemmas.Option.slice_get-map}
use Rattle.stack_text.{specs.SharedLimits.most_stack, specs.Options.◌>>=◌, specs.Breaches.when, specs.declared.breach.Breach.Breach}
use Rattle.stack_text.specs.Grammar.Printed.{unplaced_name}
use Rattle.piton_words.specs.declared.word.Word.TheVariants as word
use Rattle.piton_syntax.{specs.declared.argument.ArgKind.ArgKind, specs.declared.argument.ArgText.ArgText, specs.declared.word_text.WordItem.WordItem}
use Rattle.piton_syntax.{specs.declared.word_text.WordText.WordText, specs.Operations.op_arguments, specs.Systems.{InstrOf, ProgramOf, AreaOf, SystemOf}}
use Rattle.piton_syntax.specs.Systems.{unplaced_item, unplaced_word, unplaced_argument, unplaced_instruction, unplaced_temporary, unplaced_program}
use Rattle.piton_syntax.specs.Systems.{unplaced_area, without_places}
use Rattle.piton_syntax.specs.declared.argument.ArgKind.TheVariants as kind
use Rattle.piton_syntax.specs.declared.argument.ArgText.TheVariants as text
use Rattle.piton_syntax.specs.declared.word_text.WordItem.TheVariants as item
use Rattle.piton_check.specs.declared.resolved.ResolvedArg.TheVariants as arg
use Rattle.piton_check.specs.Declarations.{Declaration, area_name, program_name, formal_name, temporary_name, label_name, area_names, program_names}
use Rattle.piton_check.{specs.Declarations.{local_names, label_names, is_named, first_of, repeat_of, repeats}, specs.Meaning.{position_in, area_lengths}}
use Rattle.piton_check.{specs.Meaning.{program_lengths, word_of, name_kind, name_of}, specs.Places.{BreakAlike, PlacesChangeNothing}}
use Rattle.piton_check.specs.Resolved.{resolved_word, resolved_temporary, resolved_area, resolved_argument, resolved_instruction, resolved_program}
use Rattle.piton_check.{specs.Resolved.{resolved_number, resolved}, specs.Violations.{word_breaches, temporary_breaches, area_breaches, name_rule}}
use Rattle.piton_check.specs.Violations.{argument_breaches, instruction_breaches, end_breaches, program_breaches, main_of, main_breaches, is_within}
use Rattle.piton_check.specs.Violations.{first_frame, size_breaches, violations}

-- 1. Declarations.

abbrev bare : Declaration → Declaration
bare d = option_map unplaced_name d

bare_named : (name : List ℕ) (d : Declaration) → is_named name (bare d) ≡ is_named name d
bare_named name None = refl
bare_named name (Some n) = refl

position_bare : (name : List ℕ) (ds : List Declaration) → position_or_len (is_named name) (map bare ds) ≡ position_or_len (is_named name) ds
position_bare name [] = refl
position_bare name (d ∷ ds) =
    ap₂ (λ (b : Bool) (n : ℕ). cond (not b) (1 + n) 0) (bare_named name d) (position_bare name ds)

first_bare : (ds : List Declaration) (name : List ℕ) → first_of (map bare ds) name ≡ first_of ds name
first_bare ds name = ap₂ (λ (n l : ℕ). cond (nat_lt n l) (Some n) None) (position_bare name ds) (length-map ds bare)

-- the same for each item of a list
all_same : {X Y Z : Type 0} (u : X → Y) (f : Y → Z) (g : X → Z) → ((x : X) → f (u x) ≡ g x) → (xs : List X) → map f (map u xs) ≡ map g xs
all_same u f g h [] = refl
all_same u f g h (x ∷ xs) = λ i. h x i ∷ all_same u f g h xs i

all_bare : {X : Type 0} (u : X → X) (f : X → Declaration) → ((x : X) → f (u x) ≡ bare (f x)) → (xs : List X) → map f (map u xs) ≡ map bare (map f xs)
all_bare u f h [] = refl
all_bare u f h (x ∷ xs) = ap₂ (λ (d : Declaration) (ds : List Declaration). d ∷ ds) (h x) (all_bare u f h xs)

locals_bare : (p : ProgramOf) → local_names (unplaced_program p) ≡ map bare (local_names p)
locals_bare p =
    ap₂ (λ (ds es : List Declaration). ds ++ es) (all_bare unplaced_name formal_name (λ n. refl) p.formals)
    (all_bare unplaced_temporary temporary_name (λ t. refl) p.temporaries)
    ∙ sym (map-append bare (map formal_name p.formals) (map temporary_name p.temporaries))

labels_bare : (p : ProgramOf) → label_names (unplaced_program p) ≡ map bare (label_names p)
labels_bare p = all_bare unplaced_instruction label_name (λ i. refl) p.instrs

first_local : (p : ProgramOf) (name : List ℕ) → first_of (local_names (unplaced_program p)) name ≡ first_of (local_names p) name
first_local p name = ap (λ ds. first_of ds name) (locals_bare p) ∙ first_bare (local_names p) name

first_label : (p : ProgramOf) (name : List ℕ) → first_of (label_names (unplaced_program p)) name ≡ first_of (label_names p) name
first_label p name = ap (λ ds. first_of ds name) (labels_bare p) ∙ first_bare (label_names p) name

-- 2. Breaches.

joined : (ks ls ms ns : List Breach) → BreakAlike ks ls → BreakAlike ms ns → BreakAlike (ks ++ ms) (ls ++ ns)
joined ks ls ms ns h g =
    map-append (λ (b : Breach). b.rule) ks ms ∙ ap₂ (λ (xs ys : List ℕ). xs ++ ys) h g ∙ sym (map-append (λ (b : Breach). b.rule) ls ns)

alike_when : (b c : Bool) (place other rule : ℕ) → b ≡ c → BreakAlike (when b place rule) (when c other rule)
alike_when true true place other rule e = refl
alike_when false false place other rule e = refl
alike_when true false place other rule e = cc
alike_when false true place other rule e = cc

alike_all : {X Y : Type 0} (u : X → Y) (f : Y → List Breach) (g : X → List Breach) → ((x : X) → BreakAlike (f (u x)) (g x)) → (xs : List X)
    → BreakAlike (flat_map f (map u xs)) (flat_map g xs)
alike_all u f g h [] = refl
alike_all u f g h (x ∷ xs) = joined (f (u x)) (g x) (flat_map f (map u xs)) (flat_map g xs) (h x) (alike_all u f g h xs)

repeat_alike : (rule : ℕ) (earlier : List Declaration) (d : Declaration) → BreakAlike (repeat_of rule (map bare earlier) (bare d)) (repeat_of rule earlier d)
repeat_alike rule earlier None = refl
repeat_alike rule earlier (Some n) = alike_when _ _ _ _ rule (ap is_some (first_bare earlier n.name))

repeats_alike : (rule : ℕ) (earlier ds : List Declaration) → BreakAlike (repeats rule (map bare earlier) (map bare ds)) (repeats rule earlier ds)
repeats_alike rule earlier [] = refl
repeats_alike rule earlier (d ∷ ds) =
    joined (repeat_of rule (map bare earlier) (bare d)) (repeat_of rule earlier d) (repeats rule (map bare earlier ++ bare d ∷ []) (map bare ds))
    (repeats rule (earlier ++ d ∷ []) ds)
    (repeat_alike rule earlier d)
    (subst (λ (es : List Declaration). BreakAlike (repeats rule es (map bare ds)) (repeats rule (earlier ++ d ∷ []) ds))
    (map-append bare earlier (d ∷ [])) (repeats_alike rule (earlier ++ d ∷ []) ds))

-- names that are declared, and stripped of their places
repeats_in : (rule : ℕ) (ds es : List Declaration) → ds ≡ map bare es → BreakAlike (repeats rule [] ds) (repeats rule [] es)
repeats_in rule ds es e = subst (λ (ks : List Declaration). BreakAlike (repeats rule [] ks) (repeats rule [] es)) (sym e) (repeats_alike rule [] es)

-- 3. A system and the same without places.

module _ (s : SystemOf) where
  abbrev u : SystemOf
  u = without_places s

  areas_bare : area_names u ≡ map bare (area_names s)
  areas_bare = all_bare unplaced_area area_name (λ a. refl) s.areas

  programs_bare : program_names u ≡ map bare (program_names s)
  programs_bare = all_bare unplaced_program program_name (λ p. refl) s.programs

  first_area : (name : List ℕ) → first_of (area_names u) name ≡ first_of (area_names s) name
  first_area name = ap (λ ds. first_of ds name) areas_bare ∙ first_bare (area_names s) name

  first_program : (name : List ℕ) → first_of (program_names u) name ≡ first_of (program_names s) name
  first_program name = ap (λ ds. first_of ds name) programs_bare ∙ first_bare (program_names s) name

  areas_long : area_lengths u ≡ area_lengths s
  areas_long = all_same unplaced_area (λ (a : AreaOf). length a.words) (λ (a : AreaOf). length a.words) (λ a. length-map a.words unplaced_word) s.areas

  programs_long : program_lengths u ≡ program_lengths s
  programs_long = all_same unplaced_program (λ (p : ProgramOf). length p.instrs) (λ (p : ProgramOf). length p.instrs)
      (λ p. length-map p.instrs unplaced_instruction) s.programs

  word_same : (i : WordItem) → word_of u (unplaced_item i) ≡ word_of s i
  word_same (item.Int n) = refl
  word_same (item.Nat n) = refl
  word_same (item.Bitv n) = refl
  word_same (item.Bool b) = refl
  word_same (item.Addr area n) = λ i. first_area area.name i >>= λ a. position_in (get_or (areas_long i) a 0) n.number >>= λ o. Some (word.Addr a o)
  word_same (item.Pc program n) = λ i. first_program program.name i >>= λ p. position_in (get_or (programs_long i) p 0) n.number >>= λ k. Some (word.Pc p k)
  word_same (item.Subr program) = ap (option_map word.Subr) (first_program program.name)

  name_same : (p : ProgramOf) (k : ArgKind) (name : List ℕ) → name_of u (unplaced_program p) k name ≡ name_of s p k name
  name_same p kind.Local name = ap (option_map arg.Local) (first_local p name)
  name_same p kind.Area name = ap (option_map arg.Area) (first_area name)
  name_same p kind.Label name = ap (option_map arg.Place) (first_label p name)
  name_same p kind.Program name = ap (option_map arg.Program) (first_program name)
  name_same p k name = refl

  -- what names resolve to

  resolved_word_same : (w : WordText) → resolved_word u (unplaced_word w) ≡ resolved_word s w
  resolved_word_same w = ap (λ o. unwrap_or o (word.Bool false)) (word_same w.item)

  resolved_argument_same : (p : ProgramOf) (k : ArgKind) (a : ArgText) → resolved_argument u (unplaced_program p) k (unplaced_argument a)
      ≡ resolved_argument s p k a
  resolved_argument_same p k (text.Name n) = ap (λ o. unwrap_or o (arg.Number 0)) (name_same p k n.name)
  resolved_argument_same p k (text.Number n) = refl
  resolved_argument_same p k (text.Word w) = ap arg.Word (resolved_word_same w)
  resolved_argument_same p k (text.Test t) = refl

  resolved_instruction_same : (p : ProgramOf) (i : InstrOf) → resolved_instruction u (unplaced_program p) (unplaced_instruction i) ≡ resolved_instruction s p i
  resolved_instruction_same p i =
      let k = name_kind (op_arguments i.op) in
      let args = all_same unplaced_argument (resolved_argument u (unplaced_program p) k) (resolved_argument s p k) (resolved_argument_same p k) i.args in
      λ j. record { op = i.op; args = args j }

  resolved_program_same : (p : ProgramOf) → resolved_program u (unplaced_program p) ≡ resolved_program s p
  resolved_program_same p =
      let formals = length-map p.formals unplaced_name in
      let temporaries = all_same unplaced_temporary (resolved_temporary u) (resolved_temporary s) (λ t. resolved_word_same t.1) p.temporaries in
      let instrs =
      all_same unplaced_instruction (resolved_instruction u (unplaced_program p)) (resolved_instruction s p) (resolved_instruction_same p) p.instrs in
      λ j. record { formals = formals j; temporaries = temporaries j; instrs = instrs j }

  resolved_same : resolved u ≡ resolved s
  resolved_same =
      let areas = all_same unplaced_area (resolved_area u) (resolved_area s)
      (λ a. all_same unplaced_word (resolved_word u) (resolved_word s) resolved_word_same a.words) s.areas in
      let stack = all_same unplaced_word (resolved_word u) (resolved_word s) resolved_word_same s.stack in
      let programs = all_same unplaced_program (resolved_program u) (resolved_program s) resolved_program_same s.programs in
      λ j. record {
        main = unwrap_or (first_program s.main.name j) 0;
        ctrl = resolved_number s.ctrl.number;
        temp = resolved_number s.temp.number;
        base = resolved_number s.base.number;
        areas = areas j;
        stack = stack j;
        programs = programs j;
      }

  -- the rules that are broken

  word_alike : (w : WordText) → BreakAlike (word_breaches u (unplaced_word w)) (word_breaches s w)
  word_alike w = alike_when _ _ _ _ 11 (ap is_none (word_same w.item))

  argument_alike : (p : ProgramOf) (k : ArgKind) (a : ArgText) → BreakAlike (argument_breaches u (unplaced_program p) k (unplaced_argument a))
      (argument_breaches s p k a)
  argument_alike p k (text.Name n) = alike_when _ _ _ _ (name_rule k) (ap is_none (name_same p k n.name))
  argument_alike p k (text.Number n) = alike_when _ _ _ _ 13 refl
  argument_alike p k (text.Word w) = word_alike w
  argument_alike p k (text.Test t) = refl

  instruction_alike : (p : ProgramOf) (i : InstrOf) → BreakAlike (instruction_breaches u (unplaced_program p) (unplaced_instruction i))
      (instruction_breaches s p i)
  instruction_alike p i =
      let k = name_kind (op_arguments i.op) in
      alike_all unplaced_argument (argument_breaches u (unplaced_program p) k) (argument_breaches s p k) (argument_alike p k) i.args

  end_alike : (o : Option InstrOf) → BreakAlike (end_breaches (option_map unplaced_instruction o)) (end_breaches o)
  end_alike None = refl
  end_alike (Some i) = alike_when _ _ _ _ 12 refl

  last_same : (p : ProgramOf) → slice_get (map unplaced_instruction p.instrs) (length (map unplaced_instruction p.instrs) - 1)
      ≡ option_map unplaced_instruction (slice_get p.instrs (length p.instrs - 1))
  last_same p =
      ap (λ (n : ℕ). slice_get (map unplaced_instruction p.instrs) (n - 1)) (length-map p.instrs unplaced_instruction)
      ∙ slice_get-map unplaced_instruction p.instrs (length p.instrs - 1)

  program_alike : (p : ProgramOf) → BreakAlike (program_breaches u (unplaced_program p)) (program_breaches s p)
  program_alike p =
      joined _ _ _ _
      (joined _ _ _ _
      (joined _ _ _ _
      (joined _ _ _ _ (repeats_in 5 (local_names (unplaced_program p)) (local_names p) (locals_bare p))
      (repeats_in 6 (label_names (unplaced_program p)) (label_names p) (labels_bare p)))
      (alike_all unplaced_temporary (temporary_breaches u) (temporary_breaches s) (λ t. word_alike t.1) p.temporaries))
      (alike_all unplaced_instruction (instruction_breaches u (unplaced_program p)) (instruction_breaches s p) (instruction_alike p) p.instrs))
      (subst (λ o. BreakAlike (end_breaches o) (end_breaches (slice_get p.instrs (length p.instrs - 1)))) (sym (last_same p))
      (end_alike (slice_get p.instrs (length p.instrs - 1))))

  main_same : main_of u ≡ option_map unplaced_program (main_of s)
  main_same = ap (λ o. o >>= λ main. slice_get u.programs main) (first_program s.main.name) ∙ by_first (first_of (program_names s) s.main.name)
    where
      by_first : (o : Option ℕ) → (o >>= λ main. slice_get (map unplaced_program s.programs) main)
          ≡ option_map unplaced_program (o >>= λ main. slice_get s.programs main)
      by_first None = refl
      by_first (Some k) = slice_get-map unplaced_program s.programs k

  main_alike : (o : Option ProgramOf) → BreakAlike (main_breaches u (option_map unplaced_program o)) (main_breaches s o)
  main_alike None = refl
  main_alike (Some p) = alike_when _ _ _ _ 4 (ap (λ (n : ℕ). nat_lt 0 n) (length-map p.formals unplaced_name))

  frame_same : (o : Option ProgramOf) → first_frame (option_map unplaced_program o) ≡ first_frame o
  frame_same None = refl
  frame_same (Some p) = ap (λ (n : ℕ). 2 + n) (length-map p.temporaries unplaced_temporary)

  sizes_alike : BreakAlike (size_breaches u) (size_breaches s)
  sizes_alike =
      joined _ _ _ _
      (joined _ _ _ _
      (alike_when _ _ _ _ 14 (ap (λ (n : ℕ). not (is_within n most_stack s.ctrl.number)) (ap first_frame main_same ∙ frame_same (main_of s))))
      (alike_when _ _ _ _ 14 (ap (λ (n : ℕ). not (is_within (max n 1) most_stack s.temp.number)) (length-map s.stack unplaced_word))))
      (alike_when _ _ _ _ 14 refl)

  alike : BreakAlike (violations u) (violations s)
  alike =
      joined _ _ _ _
      (joined _ _ _ _ (repeats_in 2 (area_names u) (area_names s) areas_bare) (repeats_in 1 (program_names u) (program_names s) programs_bare))
      (joined _ _ _ _
      (joined _ _ _ _
      (joined _ _ _ _
      (joined _ _ _ _ (subst (λ o. BreakAlike (main_breaches u o) (main_breaches s (main_of s))) (sym main_same) (main_alike (main_of s))) sizes_alike)
      (alike_all unplaced_area (area_breaches u) (area_breaches s) (λ a. alike_all unplaced_word (word_breaches u) (word_breaches s) word_alike a.words)
      s.areas))
      (alike_all unplaced_word (word_breaches u) (word_breaches s) word_alike s.stack))
      (alike_all unplaced_program (program_breaches u) (program_breaches s) program_alike s.programs))

pub places_change_nothing : PlacesChangeNothing
places_change_nothing s r e =
    (sym (alike s) ∙ ap (λ (t : SystemOf). map (λ (b : Breach). b.rule) (violations t)) e ∙ alike r, sym (resolved_same s) ∙ ap resolved e ∙ resolved_same r)
