-- A value that fits a shape is one of it.
use Rattle.std.proofs.Common.{◌≡◌, ℤ, List, [], ◌∷◌, map, length, Option, Some, None, Bool, true, false, cond, not, ◌&&◌, ◌||◌, eqb, refl, sym, subst, ◌∙◌}
use Rattle.std.{specs.List.list_all, proofs.lemmas.Bool.{and_parts, and_from, eqb-true, eq-eqb}, proofs.lemmas.List.length-map}
use Rattle.stack_text.{specs.declared.shape.Kind.Kind, specs.declared.shape.Shape.Shape, specs.Values.{is_item, is_value, same_kind}}
use Rattle.stack_text.proofs.SharedLaws.{kind_same}
use Rattle.fm_loader.{specs.declared.fault.Rule.Rule, specs.declared.parsed.Scalar.Scalar, specs.declared.parsed.ParsedValue.ParsedValue}
use Rattle.fm_loader.{specs.declared.parsed.ParsedValue.TheVariants.{Single, Several}, specs.Values.{is_there, is_within, mismatch, number_of, numbers_of}}
use Rattle.fm_loader.specs.declared.fault.Rule.TheVariants as rules

there_is_item : (kind : Kind) (number : Option ℤ) → is_there kind number ≡ true → is_item kind (number_of (record { kind = kind; number = number })) ≡ true
there_is_item kind None h = cc
there_is_item kind (Some number) h = h

scalar_is_item : (kind : Kind) (scalar : Scalar) → same_kind kind scalar.kind ≡ true → is_within scalar ≡ true → is_item kind (number_of scalar) ≡ true
scalar_is_item kind scalar same within =
    subst (λ (k : Kind). is_item k (number_of scalar) ≡ true) (sym (kind_same kind scalar.kind same)) (there_is_item scalar.kind scalar.number within)

are_items : (kind : Kind) (scalars : List Scalar) → list_all (λ scalar. same_kind kind scalar.kind) scalars ≡ true → list_all is_within scalars ≡ true
    → list_all (λ item. is_item kind item) (map number_of scalars) ≡ true
are_items kind [] same within = refl
are_items kind (scalar ∷ scalars) same within =
    let p = and_parts _ _ same in
    let q = and_parts _ _ within in
    and_from _ _ (scalar_is_item kind scalar p.0 q.0) (are_items kind scalars p.1 q.1)

-- what a chain of tests that each refuse lets pass
passes : (a : Bool) (n : Rule) (rest : Option Rule) → cond (not a) (Some n) rest ≡ None → (a ≡ true) × (rest ≡ None)
passes true n rest h = (refl, h)
passes false n rest h = cc

either_passes : (a b : Bool) (n : Rule) (rest : Option Rule) → cond (a || not b) (Some n) rest ≡ None → (a ≡ false) × (b ≡ true) × (rest ≡ None)
either_passes true b n rest h = cc
either_passes false true n rest h = (refl, refl, h)
either_passes false false n rest h = cc

pub fits_is_value : (shape : Shape) (value : ParsedValue) → mismatch shape value ≡ None → is_value shape (numbers_of value) ≡ true
fits_is_value shape (Single scalar) h =
    let p = passes (eqb shape.length 0 && same_kind shape.kind scalar.kind) rules.Kind (cond (not (is_within scalar)) (Some rules.Range) None) h in
    let q = and_parts (eqb shape.length 0) (same_kind shape.kind scalar.kind) p.0 in
    let r = passes (is_within scalar) rules.Range None p.1 in
    rw (q.0, scalar_is_item shape.kind scalar q.1 r.0) refl
fits_is_value shape (Several scalars) h =
    let p = either_passes (eqb shape.length 0) (list_all (λ scalar. same_kind shape.kind scalar.kind) scalars) rules.Kind
    (cond (not (eqb (length scalars) shape.length)) (Some rules.Length) (cond (not (list_all is_within scalars)) (Some rules.Range) None)) h in
    let q = passes (eqb (length scalars) shape.length) rules.Length (cond (not (list_all is_within scalars)) (Some rules.Range) None) p.2 in
    let r = passes (list_all is_within scalars) rules.Range None q.1 in
    rw p.0 (and_from _ _ (eq-eqb _ _ (length-map scalars number_of ∙ eqb-true _ _ q.0)) (are_items shape.kind scalars p.1 r.0))
