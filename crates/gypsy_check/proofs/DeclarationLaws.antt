-- Declarations: the values that suit a type, the types of variables, and the words that these take.
use Rattle.std.proofs.Common.{◌≡◌, ℕ, ◌+◌, ℤ, pos, List, [], ◌∷◌, ◌++◌, map, length, min, nat_lt, ◌&&◌, Some, refl, ap, ap₂, sym, ◌∙◌, ⊎_elim, arith, lt-ltb}
use Rattle.std.{proofs.Common.le-ltb, specs.List.{flat_map, list_all}, specs.Ordering.int_eq, proofs.lemmas.Bool.cases_lt}
use Rattle.stack_text.specs.declared.shape.Kind.{Kind}
use Rattle.gypsy_syntax.{specs.declared.literal.Decl.Decl, specs.declared.literal.Literal.Literal, specs.declared.literal.Local.Local}
use Rattle.gypsy_syntax.{specs.declared.literal.TypeText.TypeText, specs.declared.proc.Proc.Proc, specs.Resolved.{literal_kind, variable_types}}
use Rattle.gypsy_syntax.{specs.Sources.LocalOf, specs.Views.SourceView.{literal_of, local_of, proc_of, items_of_list}, proofs.ViewLaws.literal_of-list}
use Rattle.gypsy_check.{specs.Types.{is_of_kind, are_of_kind, item_number, suits, words_of_types}, specs.Rules.type_breaches, proofs.NoteLaws.flat_append}

item_count_is : (ls : List Literal) → item_number (items_of_list ls) ≡ length ls
item_count_is [] = refl
item_count_is (l ∷ ls) = omega (arith, item_count_is ls)

all_kinds : (k : Kind) (ls : List Literal) → are_of_kind k (items_of_list ls) ≡ list_all (λ l. is_of_kind k (literal_kind (literal_of l))) ls
all_kinds k [] = refl
all_kinds k (l ∷ ls) = ap (λ b. is_of_kind k (literal_kind (literal_of l)) && b) (all_kinds k ls)

pub list_suits : (k : Kind) (n : ℤ) (place : ℕ) (items : _) → suits k (Some n)
    (literal_of (Rattle.gypsy_syntax.specs.declared.literal.Literal.TheVariants.List place items))
    ≡ (int_eq n (pos (length items.items)) && list_all (λ l. is_of_kind k (literal_kind (literal_of l))) items.items)
list_suits k n place items =
    ap (suits k (Some n)) (literal_of-list place items) ∙
    ap₂ (λ m b. int_eq n (pos m) && b) (item_count_is items.items) (all_kinds k items.items)

locals_types : (ls : List Local) → map (λ (x : LocalOf). x.decl.shape) (map local_of ls) ≡ map (λ (x : Local). x.decl.shape) ls
locals_types [] = refl
locals_types (l ∷ ls) = ap (λ ts. l.decl.shape ∷ ts) (locals_types ls)

pub types_are : (p : Proc) → variable_types (proc_of p) ≡ map (λ (d : Decl). d.shape) p.formals.items ++ map (λ (x : Local). x.decl.shape) p.locals.items
types_are p = ap (λ ts. map (λ (d : Decl). d.shape) p.formals.items ++ ts) (locals_types p.locals.items)

flat_type : {X : Type 0} (type : X → TypeText) (xs : List X) → flat_map type_breaches (map type xs) ≡ flat_map (λ x. type_breaches (type x)) xs
flat_type type [] = refl
flat_type type (x ∷ xs) = ap (λ vs. type_breaches (type x) ++ vs) (flat_type type xs)

pub types_flat : (p : Proc) → flat_map type_breaches (variable_types (proc_of p)) ≡ flat_map (λ (d : Decl). type_breaches d.shape) p.formals.items
    ++ flat_map (λ (x : Local). type_breaches x.decl.shape) p.locals.items
types_flat p =
    ap (flat_map type_breaches) (types_are p) ∙
    flat_append type_breaches (map (λ (d : Decl). d.shape) p.formals.items) (map (λ (x : Local). x.decl.shape) p.locals.items) ∙
    ap₂ (λ vs ws. vs ++ ws) (flat_type (λ (d : Decl). d.shape) p.formals.items) (flat_type (λ (x : Local). x.decl.shape) p.locals.items)

words_append : (ts us : List TypeText) → words_of_types (ts ++ us) ≡ words_of_types ts + words_of_types us
words_append [] us = omega arith
words_append (t ∷ ts) us = omega (arith, words_append ts us)

over : (w f l t : ℕ) → min w 65537 ≡ min (f + l) 65537 → min f 65537 ≡ min t 65537 → nat_lt 65536 w ≡ nat_lt 65536 (t + l)
over w f l t e h =
    ⊎_elim
    (λ lt. rw (lt-ltb 65536 w lt, lt-ltb 65536 (t + l) (omega (arith, e, h, lt))) refl)
    (λ le. rw (le-ltb 65536 w le, le-ltb 65536 (t + l) (omega (arith, e, h, le))) refl)
    (cases_lt 65536 w)

pub is_over : (p : Proc) (w f : ℕ) → min w 65537 ≡ min (f + words_of_types (map (λ (x : Local). x.decl.shape) p.locals.items)) 65537
    → min f 65537 ≡ min (words_of_types (map (λ (d : Decl). d.shape) p.formals.items)) 65537
    → nat_lt 65536 w ≡ nat_lt 65536 (words_of_types (variable_types (proc_of p)))
is_over p w f e h =
    over w f (words_of_types (map (λ (x : Local). x.decl.shape) p.locals.items)) (words_of_types (map (λ (d : Decl). d.shape) p.formals.items)) e h ∙
    ap (nat_lt 65536) (sym (ap words_of_types (types_are p) ∙ words_append (map (λ (d : Decl). d.shape) p.formals.items)
    (map (λ (x : Local). x.decl.shape) p.locals.items)))
