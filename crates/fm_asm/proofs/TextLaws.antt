-- Printed lines: their bytes, and that they are cut and trimmed to themselves.
use Rattle.std.proofs.Common.{◌≡◌, ℕ, ◌≤◌, ◌==◌, ◌&&◌, Bool, true, false, not, List, [], ◌∷◌, ◌++◌, length, None, refl, ap, ◌∙◌, arith, le-leb}
use Rattle.std.{specs.List.{list_all, slice_split, onto_first}, specs.Char.is_ascii_digit, proofs.lemmas.Bool.{and_parts, and_from, not-true, cond-false}}
use Rattle.std.proofs.lemmas.Bool.Decides.{nat_tests}
use Rattle.fm_asm.{specs.Cuts.{cut, without_leading_spaces, unless_trailing, without_trailing, trimmed}, specs.Lines.text_of, proofs.CutLaws.{lacks, cut-lacks}}
use Rattle.fm_asm.proofs.ValueLaws.{lacks_from}
use Rattle.stack_text.specs.Lines.{is_plain_byte, is_plain_line}

-- a plain byte that begins no comment
abbrev pub is_text_byte : ℕ → Bool
is_text_byte b = is_plain_byte b && not (b == 59)

pub all-append : {X : Type 0} (p : X → Bool) (a b : List X) → list_all p a ≡ true → list_all p b ≡ true → list_all p (a ++ b) ≡ true
all-append p [] b h k = k
all-append p (x ∷ a) b h k = let parts = and_parts (p x) (list_all p a) h in and_from (p x) (list_all p (a ++ b)) parts.0 (all-append p a b parts.1 k)

pub all_weaker : (p q : ℕ → Bool) (xs : List ℕ) → ((x : ℕ) → p x ≡ true → q x ≡ true) → list_all p xs ≡ true → list_all q xs ≡ true
all_weaker p q [] h k = refl
all_weaker p q (x ∷ xs) h k = let parts = and_parts (p x) (list_all p xs) k in and_from (q x) (list_all q xs) (h x parts.0) (all_weaker p q xs h parts.1)

digit_is_text : (b : ℕ) → is_ascii_digit b ≡ true → is_text_byte b ≡ true
digit_is_text b h = grind (arith, nat_tests)

pub digits_are_text : (ds : List ℕ) → list_all is_ascii_digit ds ≡ true → list_all is_text_byte ds ≡ true
digits_are_text ds h = all_weaker is_ascii_digit is_text_byte ds digit_is_text h

text_is_plain : (b : ℕ) → is_text_byte b ≡ true → is_plain_byte b ≡ true
text_is_plain b h = (and_parts _ _ h).0

-- a line that begins with no space, and ends in a part that has none
pub record IsTidy (text : List ℕ) : Type 0 where
  pub bytes : list_all is_text_byte text ≡ true
  pub short : length text ≤ 256
  pub front : List ℕ
  pub first : ℕ
  pub rest : List ℕ
  pub back : ℕ
  pub more : List ℕ
  pub begins : text ≡ first ∷ rest
  pub no_space : (first == 32) ≡ false
  pub ends : text ≡ front ++ back ∷ more
  pub spaceless : lacks 32 (back ∷ more) ≡ true

last_kept : (x : ℕ) (xs : List ℕ) → lacks 32 (x ∷ xs) ≡ true → without_trailing 32 (x ∷ xs) ≡ x ∷ xs
unfolding without_trailing
last_kept x [] h = rw (not-true (x == 32) (and_parts _ _ h).0) refl
last_kept x (y ∷ xs) h = ap (unless_trailing 32 x) (last_kept y xs (and_parts (not (x == 32)) (lacks 32 (y ∷ xs)) h).1)

end_kept : (front : List ℕ) (x : ℕ) (xs : List ℕ) → lacks 32 (x ∷ xs) ≡ true → without_trailing 32 (front ++ x ∷ xs) ≡ front ++ x ∷ xs
unfolding without_trailing
end_kept [] x xs h = last_kept x xs h
end_kept (b ∷ []) x xs h = ap (unless_trailing 32 b) (last_kept x xs h)
end_kept (b ∷ c ∷ front) x xs h = ap (unless_trailing 32 b) (end_kept (c ∷ front) x xs h)

pub tidy_text : (text : List ℕ) → IsTidy text → text_of text ≡ text
unfolding text_of trimmed without_leading_spaces
tidy_text text t =
    let commentless : cut 59 text ≡ (text, None) = cut-lacks 59 text (lacks_from is_text_byte 59 text refl t.bytes) in
    let begun : without_leading_spaces text ≡ text = cc (t.begins, cond-false (t.first == 32) _ _ t.no_space) in
    let ended : without_trailing 32 text ≡ text = cc (t.ends, end_kept t.front t.back t.more t.spaceless) in
    rw commentless (ap (without_trailing 32) begun ∙ ended)

pub tidy_plain : (text : List ℕ) → IsTidy text → is_plain_line text ≡ true
unfolding is_plain_line
tidy_plain text t = and_from _ _ (le-leb (length text) 256 t.short) (all_weaker is_text_byte is_plain_byte text text_is_plain t.bytes)

-- ---- lines, one after the other

split-line : (line rest : List ℕ) → lacks 10 line ≡ true → slice_split (λ b. b == 10) (line ++ 10 ∷ rest) ≡ line ∷ slice_split (λ b. b == 10) rest
split-line [] rest h = refl
split-line (b ∷ line) rest h =
    let parts = and_parts (not (b == 10)) (lacks 10 line) h in
    cond-false (b == 10) _ _ (not-true (b == 10) parts.0) ∙ ap (onto_first b) (split-line line rest parts.1)

unfoldable pub lines_text : List (List ℕ) → List ℕ
lines_text [] = []
lines_text (line ∷ lines) = line ++ 10 ∷ lines_text lines

pub split-lines : (lines : List (List ℕ)) → list_all (lacks 10) lines ≡ true → slice_split (λ b. b == 10) (lines_text lines) ≡ lines ++ [] ∷ []
unfolding lines_text
split-lines [] h = refl
split-lines (line ∷ lines) h =
    let parts = and_parts (lacks 10 line) (list_all (lacks 10) lines) h in
    split-line line (lines_text lines) parts.0 ∙ ap (λ ls. line ∷ ls) (split-lines lines parts.1)
