-- What was noted, and then more.
use Rattle.std.proofs.Common.{◌≡◌, ℕ, zero, suc, ◌+◌, ◌<◌, ◌≤◌, List, [], ◌∷◌, ◌++◌, map, length, drop, get_or, take, Option, None, Bool, true, false, not}
use Rattle.std.{proofs.Common.{◌==◌, ◌≢◌, ◌⊎◌, inl, inr, ◌||◌, if◌then◌else◌, refl, ap, ap₂, sym, ◌∙◌, append_assoc}, specs.List.{flat_map, list_any}}
use Rattle.std.{proofs.lemmas.Bool.eq-eqb, proofs.lemmas.Bool.Decides.eqb_tells, proofs.lemmas.List.{drop_more, drop_all, length-map, take_more}}
use Rattle.stack_text.{specs.declared.breach.Breach.Breach, specs.declared.name.Named.Named, specs.declared.shape.Kind.Kind, specs.Breaches.{when, lesser_of}}
use Rattle.stack_text.{specs.Breaches.least, proofs.BreachLaws.{notes_more, notes_none}, proofs.SharedLaws.any_push}
use Rattle.gypsy_syntax.{specs.declared.literal.Decl.Decl, specs.declared.literal.Literal.Literal, specs.declared.literal.Local.Local}
use Rattle.gypsy_syntax.{specs.declared.proc.Proc.Proc, specs.declared.literal.TypeText.TypeText, specs.declared.slot.Slot.Slot}
use Rattle.gypsy_syntax.{specs.declared.statement.Arg.Arg, specs.declared.statement.Stmt.Stmt, specs.Sources.{arg_place, LocalOf, ProcOf, SourceOf}}
use Rattle.gypsy_syntax.{specs.Views.SourceView.{literal_of, local_of, proc_of, items_of_list, arg_of, stmt_of, parts_of_list}, proofs.ViewLaws.literal_of-list}
use Rattle.gypsy_syntax.proofs.ViewLaws.{stmt_of-seq}
use Rattle.gypsy_check.{specs.Declarations.type_of, specs.Types.same_type, specs.Arguments.{kind_of, is_wanted, settled_by, is_undeclared}}
use Rattle.gypsy_check.specs.Rules.{literal_breaches, items_breaches, is_of_type, actuals_breaches, slots_breaches, argument_breaches, statement_breaches}
use Rattle.gypsy_check.specs.Rules.{parts_breaches, declared_breaches, predef_breaches}

-- the least with these
abbrev pub noted : Option Breach → List Breach → Option Breach
noted old breaches = lesser_of old (least breaches)

noted_none : (old : Option Breach) → noted old [] ≡ old
noted_none old = sym (notes_none old)

pub noted_append : (old : Option Breach) (xs ys : List Breach) → noted old (xs ++ ys) ≡ noted (noted old xs) ys
noted_append old xs ys = sym (notes_more old (noted old xs) (noted (noted old xs) ys) xs ys refl refl)

pub get_or_self : {X : Type 0} (xs : List X) (i : ℕ) (d : X) → get_or xs i d ≡ get_or xs i (get_or xs i d)
get_or_self [] i d = refl
get_or_self (x ∷ xs) zero d = refl
get_or_self (x ∷ xs) (suc i) d = get_or_self xs i d

abbrev pub literal_breaks : Literal → List Breach
literal_breaks l = literal_breaches (literal_of l)

items_each : (ls : List Literal) → items_breaches (items_of_list ls) ≡ flat_map literal_breaks ls
items_each [] = refl
items_each (l ∷ ls) = ap (λ vs. literal_breaches (literal_of l) ++ vs) (items_each ls)

pub list_each : (place : ℕ) (items : _) → literal_breaches
    (literal_of (Rattle.gypsy_syntax.specs.declared.literal.Literal.TheVariants.List place items)) ≡ flat_map literal_breaks items.items
list_each place items = ap literal_breaches (literal_of-list place items) ∙ items_each items.items

abbrev pub types_from : List Decl → ℕ → List TypeText
types_from fs i = map (λ (d : Decl). d.shape) (drop i fs)

no_actuals : (p : ProcOf) (ts : List TypeText) → actuals_breaches p ts [] ≡ []
no_actuals p [] = refl
no_actuals p (t ∷ ts) = refl

pub actuals_step : (p : ProcOf) (old next all : Option Breach) (fs : List Decl) (xs : List Named) (i : ℕ) (f : Decl) (x : Named) (ok : Bool)
    → i < length xs → i < length fs → x ≡ get_or xs i x → f ≡ get_or fs i f → ok ≡ is_of_type (same_type f.shape) (type_of p x.name)
    → noted old (actuals_breaches p (types_from fs i) (drop i xs)) ≡ all → next ≡ noted old (when (not ok) x.place 21)
    → noted next (actuals_breaches p (types_from fs (i + 1)) (drop (i + 1) xs)) ≡ all
actuals_step p old next all fs xs i f x ok lt ltf x_is f_is ok_is before noted_is =
    let rest : drop i xs ≡ x ∷ drop (i + 1) xs = drop_more xs i x lt ∙ ap (λ y. y ∷ drop (i + 1) xs) (sym x_is) in
    let types : drop i fs ≡ f ∷ drop (i + 1) fs = drop_more fs i f ltf ∙ ap (λ y. y ∷ drop (i + 1) fs) (sym f_is) in
    let later = actuals_breaches p (types_from fs (i + 1)) (drop (i + 1) xs) in
    ap (λ o. noted o later) (noted_is ∙ ap (λ b. noted old (when (not b) x.place 21)) ok_is) ∙
    sym (noted_append old (when (not (is_of_type (same_type f.shape) (type_of p x.name))) x.place 21) later) ∙
    ap₂ (λ ds ys. noted old (actuals_breaches p (map (λ (d : Decl). d.shape) ds) ys)) (sym types) (sym rest) ∙
    before

pub actuals_done : (p : ProcOf) (old all : Option Breach) (fs : List Decl) (xs : List Named) (i : ℕ) → length xs ≤ i
    → noted old (actuals_breaches p (types_from fs i) (drop i xs)) ≡ all → old ≡ all
actuals_done p old all fs xs i le before =
    sym (ap (λ ys. noted old (actuals_breaches p (types_from fs i) ys)) (drop_all i xs le) ∙ ap (noted old) (no_actuals p (types_from fs i))
    ∙ noted_none old) ∙ before

abbrev pub statement_breaks : SourceOf → ProcOf → Bool → Stmt → List Breach
statement_breaks s p in_loop b = statement_breaches s p in_loop (stmt_of b)

parts_each : (s : SourceOf) (p : ProcOf) (in_loop : Bool) (bs : List Stmt) → parts_breaches s p in_loop (parts_of_list bs)
    ≡ flat_map (statement_breaks s p in_loop) bs
parts_each s p in_loop [] = refl
parts_each s p in_loop (b ∷ bs) = ap (λ vs. statement_breaks s p in_loop b ++ vs) (parts_each s p in_loop bs)

pub seq_each : (s : SourceOf) (p : ProcOf) (in_loop : Bool) (place : ℕ) (parts : _)
    → statement_breaches s p in_loop (stmt_of (Rattle.gypsy_syntax.specs.declared.statement.Stmt.TheVariants.Seq place parts))
    ≡ flat_map (statement_breaks s p in_loop) parts.items
seq_each s p in_loop place parts = ap (statement_breaches s p in_loop) (stmt_of-seq place parts) ∙ parts_each s p in_loop parts.items

pub slots_step : (p : ProcOf) (old next all : Option Breach) (slots : List Slot) (args : List Arg) (i : ℕ) (slot : Slot) (a : Arg)
    (settled after kind : Option Kind) (ok : Bool) (place : ℕ) → i < length args → i < length slots → a ≡ get_or args i a → slot ≡ get_or slots i slot
    → kind ≡ kind_of p slot.form (arg_of a) → ok ≡ is_wanted settled slot.kind kind → place ≡ arg_place (arg_of a)
    → after ≡ settled_by settled slot.kind kind → noted old (slots_breaches p settled (drop i slots) (map arg_of (drop i args))) ≡ all
    → next ≡ noted old (when (not ok) place 23) → noted next (slots_breaches p after (drop (i + 1) slots) (map arg_of (drop (i + 1) args))) ≡ all
slots_step p old next all slots args i slot a settled after kind ok place lt lts a_is slot_is kind_is ok_is place_is after_is before noted_is =
    let rest : drop i args ≡ a ∷ drop (i + 1) args = drop_more args i a lt ∙ ap (λ y. y ∷ drop (i + 1) args) (sym a_is) in
    let wanted : drop i slots ≡ slot ∷ drop (i + 1) slots = drop_more slots i slot lts ∙ ap (λ y. y ∷ drop (i + 1) slots) (sym slot_is) in
    let k = kind_of p slot.form (arg_of a) in
    let later : List Breach = slots_breaches p (settled_by settled slot.kind k) (drop (i + 1) slots) (map arg_of (drop (i + 1) args)) in
    let test : ok ≡ is_wanted settled slot.kind k = ok_is ∙ ap (is_wanted settled slot.kind) kind_is in
    let settle : after ≡ settled_by settled slot.kind k = after_is ∙ ap (settled_by settled slot.kind) kind_is in
    ap (λ o. noted next (slots_breaches p o (drop (i + 1) slots) (map arg_of (drop (i + 1) args)))) settle ∙
    ap (λ o. noted o later) (noted_is ∙ ap₂ (λ b q. noted old (when (not b) q 23)) test place_is) ∙
    sym (noted_append old (when (not (is_wanted settled slot.kind k)) (arg_place (arg_of a)) 23) later) ∙
    ap₂ (λ ss ys. noted old (slots_breaches p settled ss (map arg_of ys))) (sym wanted) (sym rest) ∙
    before

no_slots : (p : ProcOf) (settled : Option Kind) (slots : List Slot) → slots_breaches p settled slots [] ≡ []
no_slots p settled [] = refl
no_slots p settled (s ∷ slots) = refl

pub slots_done : (p : ProcOf) (old all : Option Breach) (slots : List Slot) (args : List Arg) (i : ℕ) (settled : Option Kind) → length args ≤ i
    → noted old (slots_breaches p settled (drop i slots) (map arg_of (drop i args))) ≡ all → old ≡ all
slots_done p old all slots args i settled le before =
    sym (ap (λ ys. noted old (slots_breaches p settled (drop i slots) (map arg_of ys))) (drop_all i args le)
    ∙ ap (noted old) (no_slots p settled (drop i slots)) ∙ noted_none old) ∙ before

pub flat_args : (p : ProcOf) (args : List Arg) → flat_map (argument_breaches p) (map arg_of args) ≡ flat_map (λ a. argument_breaches p (arg_of a)) args
flat_args p [] = refl
flat_args p (a ∷ args) = ap (λ vs. argument_breaches p (arg_of a) ++ vs) (flat_args p args)

pub any_args : (p : ProcOf) (args : List Arg) → list_any (is_undeclared p) (map arg_of args) ≡ list_any (λ a. is_undeclared p (arg_of a)) args
any_args p [] = refl
any_args p (a ∷ args) = ap (λ b. is_undeclared p (arg_of a) || b) (any_args p args)

-- the arguments are as many as the slots, or not
pub right_number : (p : ProcOf) (place : ℕ) (slots : List Slot) (args : List Arg) → length args ≡ length slots →
    predef_breaches p place slots (map arg_of args)
    ≡ flat_map (λ a. argument_breaches p (arg_of a)) args ++ declared_breaches p slots (map arg_of args)
right_number p place slots args same =
    ap₂ (λ alone b. alone ++ (if b then declared_breaches p slots (map arg_of args) else when true place 22)) (flat_args p args)
    (ap (λ n. n == length slots) (length-map args arg_of) ∙ eq-eqb (length args) (length slots) same)

unequal : (m n : ℕ) → (m ≡ n → ⊥) → (m == n) ≡ false
unequal m n apart = told (eqb_tells m n)
  where
    told : (((m == n) ≡ true) × (m ≡ n)) ⊎ (((m == n) ≡ false) × (m ≢ n)) → (m == n) ≡ false
    told (inl (test, same)) = absurd (apart same)
    told (inr (test, other)) = test

pub wrong_number : (p : ProcOf) (place : ℕ) (slots : List Slot) (args : List Arg) → (length args ≡ length slots → ⊥) →
    predef_breaches p place slots (map arg_of args) ≡ flat_map (λ a. argument_breaches p (arg_of a)) args ++ when true place 22
wrong_number p place slots args other =
    ap₂ (λ alone b. alone ++ (if b then declared_breaches p slots (map arg_of args) else when true place 22)) (flat_args p args)
    (ap (λ n. n == length slots) (length-map args arg_of) ∙ unequal (length args) (length slots) other)

pub flat_append : {X : Type 0} (f : X → List Breach) (xs ys : List X) → flat_map f (xs ++ ys) ≡ flat_map f xs ++ flat_map f ys
flat_append f [] ys = refl
flat_append f (x ∷ xs) ys = ap (λ vs. f x ++ vs) (flat_append f xs ys) ∙ sym (append_assoc (f x) (flat_map f xs) (flat_map f ys))

pub flat_over : {X Y : Type 0} (g : X → Y) (f : Y → List Breach) (xs : List X) → flat_map f (map g xs) ≡ flat_map (λ x. f (g x)) xs
flat_over g f [] = refl
flat_over g f (x ∷ xs) = ap (λ vs. f (g x) ++ vs) (flat_over g f xs)

-- one of the arguments isn't declared, or all are
pub lacking : (p : ProcOf) (slots : List Slot) (args : List Arg) → list_any (λ a. is_undeclared p (arg_of a)) args ≡ true
    → declared_breaches p slots (map arg_of args) ≡ []
lacking p slots args h = ap (λ b. if b then [] else slots_breaches p None slots (map arg_of args)) (any_args p args ∙ h)

pub all_declared_here : (p : ProcOf) (slots : List Slot) (args : List Arg) → list_any (λ a. is_undeclared p (arg_of a)) args ≡ false
    → declared_breaches p slots (map arg_of args) ≡ slots_breaches p None slots (map arg_of args)
all_declared_here p slots args h = ap (λ b. if b then [] else slots_breaches p None slots (map arg_of args)) (any_args p args ∙ h)

-- whether one of those so far does, and one more
pub any_next : {X : Type 0} (f : X → Bool) (xs : List X) (i : ℕ) (x : X) (before more after : Bool) → i < length xs →
    x ≡ get_or xs i x → before ≡ list_any f (take i xs) → more ≡ f x → after ≡ (before || more) → after ≡ list_any f (take (i + 1) xs)
any_next f xs i x before more after lt is before_is more_is after_is =
    after_is ∙ ap₂ (λ b m. b || m) before_is more_is ∙
    sym (ap (list_any f) (take_more xs i x lt ∙ ap (λ u. take i xs ++ u ∷ []) (sym is)) ∙ any_push f (take i xs) x)

pub names_over : (ps : List Proc) → map (λ (p : Proc). p.name) ps ≡ map (λ (p : ProcOf). p.name) (map proc_of ps)
names_over [] = refl
names_over (p ∷ ps) = ap (λ ns. p.name ∷ ns) (names_over ps)

pub local_names_over : (ls : List Local) → map (λ (l : Local). l.decl.name) ls ≡ map (λ (l : LocalOf). l.decl.name) (map local_of ls)
local_names_over [] = refl
local_names_over (l ∷ ls) = ap (λ ns. l.decl.name ∷ ns) (local_names_over ls)
