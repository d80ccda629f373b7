-- A variable's name is a name of the other languages.
use Rattle.std.{proofs.Common.{◌≡◌, ℕ, ◌≤◌, List, [], ◌∷◌, length, true, false, cond, Some, None, is_none, refl, ap₂, arith}, specs.Prelude.{codes, ◌||◌, ◌&&◌}}
use Rattle.std.{specs.Prelude.{◌==◌, nat_le, IsTrue}, specs.Char.is_ascii_alphanumeric, specs.List.list_all, proofs.lemmas.Bool.{le-leb, leb-true, and_parts}}
use Rattle.std.specs.Prelude as std
use Rattle.stack_text.specs.Names.{is_name, is_name_byte, begins_with_letter, is_truth_word, name_of}
use Rattle.mini_syntax.{specs.declared.sort.Sort.TheVariants.{Int, Bool}, specs.Names.{is_variable_name, is_word_byte, word_named}}
use Rattle.mini_syntax.specs.declared.word.Word.TheVariants as word

word_byte : (alnum dash line star dollar : std.Bool) → (alnum || line) ≡ true → (alnum || (((dash || line) || star) || dollar)) ≡ true
word_byte true dash line star dollar e = refl
word_byte false true line star dollar e = refl
word_byte false false true star dollar e = refl
word_byte false false false star dollar e = cc

word_bytes : (bytes : List ℕ) → list_all is_word_byte bytes ≡ true → list_all is_name_byte bytes ≡ true
word_bytes [] e = refl
word_bytes (b ∷ bytes) e =
    let k = and_parts (is_word_byte b) (list_all is_word_byte bytes) e in
    let first : is_name_byte b ≡ true = word_byte (is_ascii_alphanumeric b) (b == 45) (b == 95) (b == 42) (b == 36) k.0 in
    ap₂ (λ (x y : std.Bool). x && y) first (word_bytes bytes k.1)

no_truth : (bytes : List ℕ) → is_none (word_named bytes) ≡ true → is_truth_word bytes ≡ false
no_truth bytes e = pick _ _ _ _ _ _ _ _ _ _ e
  where
    pick : (a b c d e f g h i j : std.Bool) → is_none
        (cond a (Some (word.Sort Int)) (cond b (Some (word.Sort Bool)) (cond c (Some word.While) (cond d (Some word.If) (cond e (Some word.Else)
        (cond f (Some word.Or) (cond g (Some word.And)
        (cond h (Some word.Not) (cond i (Some (word.Truth true)) (cond j (Some (word.Truth false)) None)))))))))) ≡ true → (i || j) ≡ false
    pick a b c d e f g h false false k = refl
    pick true b c d e f g h i j k = cc
    pick false true c d e f g h i j k = cc
    pick false false true d e f g h i j k = cc
    pick false false false true e f g h i j k = cc
    pick false false false false true f g h i j k = cc
    pick false false false false false true g h i j k = cc
    pick false false false false false false true h i j k = cc
    pick false false false false false false false true i j k = cc
    pick false false false false false false false false true j k = cc
    pick false false false false false false false false false true k = cc

pub variable_is_name : (name : List ℕ) → is_variable_name name ≡ true → IsTrue (is_name name)
variable_is_name name e =
    let k = and_parts (begins_with_letter name && list_all is_word_byte name && nat_le (length name) 60) (is_none (word_named name)) e in
    let l = and_parts (begins_with_letter name && list_all is_word_byte name) (nat_le (length name) 60) k.0 in
    let m = and_parts (begins_with_letter name) (list_all is_word_byte name) l.0 in
    let short : length name ≤ 60 = leb-true (length name) 60 l.1 in
    rw (m.0, word_bytes name m.1, le-leb (length name) 64 (omega arith), no_truth name k.1) refl

-- so it is read as one
pub name_made : (bytes : List ℕ) → is_variable_name bytes ≡ true → name_of bytes ≡ Some bytes
name_made bytes e = rw (variable_is_name bytes e) refl
