-- The name that is written for a variable is the variable's.
use Rattle.std.proofs.Common.{◌≡◌, ℕ, zero, suc, ◌+◌, ◌-◌, ◌<◌, List, [], ◌∷◌, ◌++◌, map, length, get_or, Bool, true, false, cond, refl, sym, ap, ◌∙◌, arith}
use Rattle.std.{proofs.Common.length-append, specs.Prelude.{◌==◌, nat_lt}, proofs.lemmas.List.length-map, proofs.lemmas.Bool.{ltb-true, ltb-false}}
use Rattle.gypsy_syntax.{specs.Sources.{ProcOf, SourceOf}, specs.Programs.{Program, proc_at}, specs.Resolved.{variable_names, shape_of, local_value}}
use Rattle.gypsy_syntax.specs.Resolved.{procedure_of}
use Rattle.gypsy_codegen.{specs.Generated.offset, specs.Text.frame_texts}

pub front_at : (a b : List (List ℕ)) (k : ℕ) → k < length a → get_or (a ++ b) k [] ≡ get_or a k []
front_at [] b k lt = absurd (omega (arith, lt))
front_at (x ∷ a) b zero lt = refl
front_at (x ∷ a) b (suc k) lt = front_at a b k (omega (arith, lt))

back_at : (a b : List (List ℕ)) (k : ℕ) → get_or (a ++ b) (length a + k) [] ≡ get_or b k []
back_at [] b k = ap (λ j. get_or b j []) (omega arith)
back_at (x ∷ a) b k = let more : suc (length a) + k ≡ suc (length a + k) = omega arith in ap (λ j. get_or (x ∷ a ++ b) j []) more ∙ back_at a b k

-- where two lists change places
swapped : (a b : List (List ℕ)) (m k v : ℕ) (t : Bool) → m ≡ length a → k ≡ length b → nat_lt v m ≡ t → v < length a + length b →
    get_or (b ++ a) (cond t (k + v) (v - m)) [] ≡ get_or (a ++ b) v []
swapped a b m k v true em ek e lt =
    let less = ltb-true v m e in
    ap (λ j. get_or (b ++ a) (j + v) []) ek ∙ back_at b a v ∙ sym (front_at a b v (omega (arith, less, em)))
swapped a b m k v false em ek e lt =
    let more = ltb-false v m e in
    let there : length a + (v - m) ≡ v = omega (arith, more, em) in
    front_at b a (v - m) (omega (arith, lt, em, more)) ∙ sym (back_at a b (v - m)) ∙ ap (λ j. get_or (a ++ b) j []) there

pub frame_name : (s : SourceOf) (q : Program) (p : ℕ) (proc : ProcOf) (v : ℕ) → proc_at q p ≡ procedure_of s proc → v < length (variable_names proc) →
    get_or (frame_texts q p proc) (offset q p v) [] ≡ get_or (variable_names proc) v []
frame_name s q p proc v here lt = by_main (p == q.main)
  where
    formals : length (proc_at q p).formals ≡ length (map (λ d. d.name.name) proc.formals)
    formals = ap (λ c. length c.formals) here ∙ length-map proc.formals (λ d. shape_of d.shape) ∙ sym (length-map proc.formals (λ d. d.name.name))

    locals : length (proc_at q p).locals ≡ length (map (λ l. l.decl.name.name) proc.locals)
    locals = ap (λ c. length c.locals) here ∙ length-map proc.locals local_value ∙ sym (length-map proc.locals (λ l. l.decl.name.name))

    by_main : (b : Bool) →
        get_or (cond b (variable_names proc) (map (λ l. l.decl.name.name) proc.locals ++ map (λ d. d.name.name) proc.formals))
        (cond b v (cond (nat_lt v (length (proc_at q p).formals)) (length (proc_at q p).locals + v) (v - length (proc_at q p).formals))) []
        ≡ get_or (variable_names proc) v []
    by_main true = refl
    by_main false =
        swapped (map (λ d. d.name.name) proc.formals) (map (λ l. l.decl.name.name) proc.locals) (length (proc_at q p).formals) (length (proc_at q p).locals) v
        (nat_lt v (length (proc_at q p).formals)) formals locals refl
        (omega (arith, lt, length-append (map (λ d. d.name.name) proc.formals) (map (λ l. l.decl.name.name) proc.locals)))
