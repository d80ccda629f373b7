-- Programs, areas and systems by their parts.
use Rattle.std.{proofs.Common.{◌≡◌, ◌<◌, ◌≤◌, ◌+◌, ℕ, List, [], ◌∷◌, length, drop, get_or, Ok, refl, sym, ap, ◌∙◌, arith}, specs.Prelude.{Bool, true, false}}
use Rattle.std.{specs.Prelude.{◌&&◌, codes}, specs.Str.bytes_eq, proofs.Math.Dec.leb, proofs.lemmas.Bool.le-leb}
use Rattle.stack_text.{specs.Numerals.is_digits, specs.Trees.{Node, Nodes, atom, list, none, more, place_of}, specs.Views.TreeView.{node_of, nodes_of}}
use Rattle.stack_text.{specs.declared.tree.TextTree.TextTree, specs.Grammar.Parts.{is_atom_of, list_length}, proofs.TreeListLaws.{count_of_all, rest}}
use Rattle.stack_text.{proofs.TreeListLaws.rest_is_drop, specs.Grammar.Judged.{Judged, ◌⊛◌, each_of, fault, judged}}
use Rattle.piton_syntax.specs.Grammar.{area_of, instruction_of, list_of, named_of, number_of, program_of, system_of, temporary_of, word_of}
use Rattle.piton_syntax.{specs.Limits.{is_small_program, is_small_system}, specs.Systems.{ProgramOf, SystemOf, new_area, new_program, new_system}}

abbrev pub program_by : ℕ → TextTree → TextTree → TextTree → List TextTree → Judged ProgramOf
program_by p name formals temporaries instrs =
    Ok (new_program p (place_of (node_of formals))) ⊛ named_of (node_of name) ⊛ list_of named_of (node_of formals) ⊛ list_of temporary_of (node_of temporaries)
    ⊛ each_of instruction_of (nodes_of instrs)

by_drop : (p : ℕ) (ts : List TextTree) (a b c : TextTree) → 4 ≤ length ts → a ≡ get_or ts 0 a → b ≡ get_or ts 1 b → c ≡ get_or ts 2 c
    → program_of (list p (nodes_of ts)) ≡ judged p 9 (is_small_program (node_of b) (node_of c) (nodes_of (drop 3 ts))) (program_by p a b c (drop 3 ts))
by_drop p [] a b c le a_is b_is c_is = absurd (omega arith)
by_drop p (t ∷ []) a b c le a_is b_is c_is = absurd (omega arith)
by_drop p (t ∷ u ∷ []) a b c le a_is b_is c_is = absurd (omega arith)
by_drop p (t ∷ u ∷ v ∷ []) a b c le a_is b_is c_is = absurd (omega arith)
by_drop p (t ∷ u ∷ v ∷ w ∷ ts) a b c le a_is b_is c_is = rw (a_is, b_is, c_is) refl

pub program_of_parts : (p : ℕ) (ts : List TextTree) (a b c : TextTree) → 4 ≤ length ts → a ≡ get_or ts 0 a → b ≡ get_or ts 1 b → c ≡ get_or ts 2 c
    → program_of (list p (nodes_of ts)) ≡ judged p 9 (is_small_program (node_of b) (node_of c) (nodes_of (rest 3 ts))) (program_by p a b c (rest 3 ts))
program_of_parts p ts a b c le a_is b_is c_is =
    by_drop p ts a b c le a_is b_is c_is ∙ ap (λ is. judged p 9 (is_small_program (node_of b) (node_of c) (nodes_of is)) (program_by p a b c is))
    (sym (rest_is_drop 3 ts))

pub short_program : (p : ℕ) (ts : List TextTree) → length ts < 4 → program_of (list p (nodes_of ts)) ≡ fault p 3
short_program p [] lt = refl
short_program p (t ∷ []) lt = refl
short_program p (t ∷ u ∷ []) lt = refl
short_program p (t ∷ u ∷ v ∷ []) lt = refl
short_program p (t ∷ u ∷ v ∷ w ∷ ts) lt = absurd (omega arith)

abbrev pub is_piton : Node → Bool
is_piton = is_atom_of (λ bytes. bytes_eq bytes (codes "piton"))

abbrev pub system_by : ℕ → Node → Node → Node → Node → Nodes → Nodes → Nodes → Judged SystemOf
system_by p main ctrl temp base areas stack programs =
    Ok (new_system p) ⊛ named_of main ⊛ number_of ctrl ⊛ number_of temp ⊛ number_of base
    ⊛ each_of area_of areas ⊛ each_of word_of stack ⊛ each_of program_of programs

area_by_drop : (p : ℕ) (ts : List TextTree) (a : TextTree) → 2 ≤ length ts → a ≡ get_or ts 0 a
    → area_of (list p (nodes_of ts)) ≡ Ok (new_area p) ⊛ named_of (node_of a) ⊛ each_of word_of (nodes_of (drop 1 ts))
area_by_drop p [] a le a_is = absurd (omega arith)
area_by_drop p (t ∷ []) a le a_is = absurd (omega arith)
area_by_drop p (t ∷ u ∷ ts) a le a_is = rw a_is refl

pub area_of_parts : (p : ℕ) (ts : List TextTree) (a : TextTree) → 2 ≤ length ts → a ≡ get_or ts 0 a
    → area_of (list p (nodes_of ts)) ≡ Ok (new_area p) ⊛ named_of (node_of a) ⊛ each_of word_of (nodes_of (rest 1 ts))
area_of_parts p ts a le a_is =
    area_by_drop p ts a le a_is ∙ ap (λ ws. Ok (new_area p) ⊛ named_of (node_of a) ⊛ each_of word_of (nodes_of ws)) (sym (rest_is_drop 1 ts))

pub short_area : (p : ℕ) (ts : List TextTree) → length ts < 2 → area_of (list p (nodes_of ts)) ≡ fault p 2
short_area p [] lt = refl
short_area p (t ∷ []) lt = refl
short_area p (t ∷ u ∷ ts) lt = absurd (omega arith)

pub not_two_of_temporary : (p : ℕ) (ts : List TextTree) → (length ts ≡ 2 → ⊥) → temporary_of (list p (nodes_of ts)) ≡ fault p 3
not_two_of_temporary p [] ne = refl
not_two_of_temporary p (t ∷ []) ne = refl
not_two_of_temporary p (t ∷ u ∷ []) ne = absurd (ne refl)
not_two_of_temporary p (t ∷ u ∷ v ∷ ts) ne = refl

pub small_program : (f t : Node) (is : List TextTree) → list_length f + list_length t ≤ 400 → leb (length is) 1048576 ≡ is_small_program f t (nodes_of is)
small_program f t is le = rw (le-leb (list_length f + list_length t) 400 le, count_of_all is) refl

pub small_system : (areas programs : List TextTree) → is_small_system (nodes_of areas) (nodes_of programs) ≡ leb (length areas) 1000
    && leb (length programs) 1100
small_system areas programs = rw (count_of_all areas, count_of_all programs) refl

-- the three numbers of a system's head
pub head_ctrl : (k c t b : Bool) → (k && c && t && b) ≡ true → c ≡ true
head_ctrl k true t b h = refl
head_ctrl true false t b h = h
head_ctrl false false t b h = h

pub head_temp : (k c t b : Bool) → (k && c && t && b) ≡ true → t ≡ true
head_temp k c true b h = refl
head_temp true true false b h = h
head_temp true false false b h = h
head_temp false c false b h = h

pub head_base : (k c t b : Bool) → (k && c && t && b) ≡ true → b ≡ true
head_base k c t true h = refl
head_base true true true false h = h
head_base true true false false h = h
head_base true false t false h = h
head_base false c t false h = h

-- a system that begins with an atom or a list
by_items : (p : ℕ) (k m c t b : Node) (q r : ℕ) (gs ws : Nodes) (i : Node) (is : Nodes)
    → system_of (list p (more k (more m (more c (more t (more b (more (list q gs) (more (list r ws) (more i is)))))))))
    ≡ judged p 1 (is_piton k && is_atom_of is_digits c && is_atom_of is_digits t && is_atom_of is_digits b)
    (judged p 9 (is_small_system gs (more i is)) (system_by p m c t b gs ws (more i is)))
by_items p (atom q bytes) m c t b a s gs ws i is = refl
by_items p (list q us) m c t b a s gs ws i is = refl

system_by_drop : (p : ℕ) (ts : List TextTree) (k m c t b a s : TextTree) (q r : ℕ) (gs ws : Nodes) → 8 ≤ length ts → k ≡ get_or ts 0 k
    → m ≡ get_or ts 1 m → c ≡ get_or ts 2 c → t ≡ get_or ts 3 t → b ≡ get_or ts 4 b
    → a ≡ get_or ts 5 a → s ≡ get_or ts 6 s → node_of a ≡ list q gs → node_of s ≡ list r ws
    → system_of (list p (nodes_of ts)) ≡ judged p 1
    (is_piton (node_of k) && is_atom_of is_digits (node_of c) && is_atom_of is_digits (node_of t) && is_atom_of is_digits (node_of b))
    (judged p 9 (is_small_system gs (nodes_of (drop 7 ts))) (system_by p (node_of m) (node_of c) (node_of t) (node_of b) gs ws (nodes_of (drop 7 ts))))
system_by_drop p [] k m c t b a s q r gs ws le k_is m_is c_is t_is b_is a_is s_is a_list s_list = absurd (omega arith)
system_by_drop p (x0 ∷ []) k m c t b a s q r gs ws le k_is m_is c_is t_is b_is a_is s_is a_list s_list = absurd (omega arith)
system_by_drop p (x0 ∷ x1 ∷ []) k m c t b a s q r gs ws le k_is m_is c_is t_is b_is a_is s_is a_list s_list = absurd (omega arith)
system_by_drop p (x0 ∷ x1 ∷ x2 ∷ []) k m c t b a s q r gs ws le k_is m_is c_is t_is b_is a_is s_is a_list s_list = absurd (omega arith)
system_by_drop p (x0 ∷ x1 ∷ x2 ∷ x3 ∷ []) k m c t b a s q r gs ws le k_is m_is c_is t_is b_is a_is s_is a_list s_list = absurd (omega arith)
system_by_drop p (x0 ∷ x1 ∷ x2 ∷ x3 ∷ x4 ∷ []) k m c t b a s q r gs ws le k_is m_is c_is t_is b_is a_is s_is a_list s_list = absurd (omega arith)
system_by_drop p (x0 ∷ x1 ∷ x2 ∷ x3 ∷ x4 ∷ x5 ∷ []) k m c t b a s q r gs ws le k_is m_is c_is t_is b_is a_is s_is a_list s_list = absurd (omega arith)
system_by_drop p (x0 ∷ x1 ∷ x2 ∷ x3 ∷ x4 ∷ x5 ∷ x6 ∷ []) k m c t b a s q r gs ws le k_is m_is c_is t_is b_is a_is s_is a_list s_list = absurd (omega arith)
system_by_drop p (x0 ∷ x1 ∷ x2 ∷ x3 ∷ x4 ∷ x5 ∷ x6 ∷ x7 ∷ ts) k m c t b a s q r gs ws le k_is m_is c_is t_is b_is a_is s_is a_list s_list =
    rw (k_is, m_is, c_is, t_is, b_is, ap node_of (sym a_is) ∙ a_list, ap node_of (sym s_is) ∙ s_list)
    (by_items p (node_of x0) (node_of x1) (node_of x2) (node_of x3) (node_of x4) q r gs ws (node_of x7) (nodes_of ts))

pub system_of_parts : (p : ℕ) (ts : List TextTree) (k m c t b a s : TextTree) (q r : ℕ) (gs ws : Nodes) → 8 ≤ length ts → k ≡ get_or ts 0 k
    → m ≡ get_or ts 1 m → c ≡ get_or ts 2 c → t ≡ get_or ts 3 t → b ≡ get_or ts 4 b
    → a ≡ get_or ts 5 a → s ≡ get_or ts 6 s → node_of a ≡ list q gs → node_of s ≡ list r ws
    → system_of (list p (nodes_of ts)) ≡ judged p 1
    (is_piton (node_of k) && is_atom_of is_digits (node_of c) && is_atom_of is_digits (node_of t) && is_atom_of is_digits (node_of b))
    (judged p 9 (is_small_system gs (nodes_of (rest 7 ts))) (system_by p (node_of m) (node_of c) (node_of t) (node_of b) gs ws (nodes_of (rest 7 ts))))
system_of_parts p ts k m c t b a s q r gs ws le k_is m_is c_is t_is b_is a_is s_is a_list s_list =
    system_by_drop p ts k m c t b a s q r gs ws le k_is m_is c_is t_is b_is a_is s_is a_list s_list
    ∙ ap (λ is. judged p 1 (is_piton (node_of k) && is_atom_of is_digits (node_of c) && is_atom_of is_digits (node_of t) && is_atom_of is_digits (node_of b))
    (judged p 9 (is_small_system gs (nodes_of is)) (system_by p (node_of m) (node_of c) (node_of t) (node_of b) gs ws (nodes_of is)))) (sym (rest_is_drop 7 ts))

no_list_of_areas : (p : ℕ) (k m c t b : Node) (q : ℕ) (bytes : List ℕ) (us : Nodes)
    → system_of (list p (more k (more m (more c (more t (more b (more (atom q bytes) us))))))) ≡ fault p 1
no_list_of_areas p (atom r name) m c t b q bytes us = refl
no_list_of_areas p (list r vs) m c t b q bytes us = refl

pub areas_are_atom : (p : ℕ) (ts : List TextTree) (a : TextTree) (q : ℕ) (bytes : List ℕ) → 8 ≤ length ts → a ≡ get_or ts 5 a → node_of a ≡ atom q bytes
    → system_of (list p (nodes_of ts)) ≡ fault p 1
areas_are_atom p [] a q bytes le a_is a_atom = absurd (omega arith)
areas_are_atom p (x0 ∷ []) a q bytes le a_is a_atom = absurd (omega arith)
areas_are_atom p (x0 ∷ x1 ∷ []) a q bytes le a_is a_atom = absurd (omega arith)
areas_are_atom p (x0 ∷ x1 ∷ x2 ∷ []) a q bytes le a_is a_atom = absurd (omega arith)
areas_are_atom p (x0 ∷ x1 ∷ x2 ∷ x3 ∷ []) a q bytes le a_is a_atom = absurd (omega arith)
areas_are_atom p (x0 ∷ x1 ∷ x2 ∷ x3 ∷ x4 ∷ []) a q bytes le a_is a_atom = absurd (omega arith)
areas_are_atom p (x0 ∷ x1 ∷ x2 ∷ x3 ∷ x4 ∷ x5 ∷ ts) a q bytes le a_is a_atom =
    rw (ap node_of (sym a_is) ∙ a_atom) (no_list_of_areas p (node_of x0) (node_of x1) (node_of x2) (node_of x3) (node_of x4) q bytes (nodes_of ts))

no_list_of_words : (p : ℕ) (k m c t b a : Node) (q : ℕ) (bytes : List ℕ) (us : Nodes)
    → system_of (list p (more k (more m (more c (more t (more b (more a (more (atom q bytes) us)))))))) ≡ fault p 1
no_list_of_words p (list r vs) m c t b a q bytes us = refl
no_list_of_words p (atom r name) m c t b (atom s word) q bytes us = refl
no_list_of_words p (atom r name) m c t b (list s gs) q bytes us = refl

pub stack_is_atom : (p : ℕ) (ts : List TextTree) (a : TextTree) (q : ℕ) (bytes : List ℕ) → 8 ≤ length ts → a ≡ get_or ts 6 a → node_of a ≡ atom q bytes
    → system_of (list p (nodes_of ts)) ≡ fault p 1
stack_is_atom p [] a q bytes le a_is a_atom = absurd (omega arith)
stack_is_atom p (x0 ∷ []) a q bytes le a_is a_atom = absurd (omega arith)
stack_is_atom p (x0 ∷ x1 ∷ []) a q bytes le a_is a_atom = absurd (omega arith)
stack_is_atom p (x0 ∷ x1 ∷ x2 ∷ []) a q bytes le a_is a_atom = absurd (omega arith)
stack_is_atom p (x0 ∷ x1 ∷ x2 ∷ x3 ∷ []) a q bytes le a_is a_atom = absurd (omega arith)
stack_is_atom p (x0 ∷ x1 ∷ x2 ∷ x3 ∷ x4 ∷ []) a q bytes le a_is a_atom = absurd (omega arith)
stack_is_atom p (x0 ∷ x1 ∷ x2 ∷ x3 ∷ x4 ∷ x5 ∷ []) a q bytes le a_is a_atom = absurd (omega arith)
stack_is_atom p (x0 ∷ x1 ∷ x2 ∷ x3 ∷ x4 ∷ x5 ∷ x6 ∷ ts) a q bytes le a_is a_atom =
    rw (ap node_of (sym a_is) ∙ a_atom) (no_list_of_words p (node_of x0) (node_of x1) (node_of x2) (node_of x3) (node_of x4) (node_of x5) q bytes (nodes_of ts))

six_items : (p q : ℕ) (bytes : List ℕ) (m c t b a : Node) → system_of (list p (more (atom q bytes) (more m (more c (more t (more b (more a none)))))))
    ≡ fault p 1
six_items p q bytes m c t b (atom r word) = refl
six_items p q bytes m c t b (list r gs) = refl

seven_items : (p q : ℕ) (bytes : List ℕ) (m c t b a s : Node) → system_of
    (list p (more (atom q bytes) (more m (more c (more t (more b (more a (more s none)))))))) ≡ fault p 1
seven_items p q bytes m c t b (atom r word) s = refl
seven_items p q bytes m c t b (list r gs) (atom u word) = refl
seven_items p q bytes m c t b (list r gs) (list u ws) = refl

few_behind : (p : ℕ) (k : Node) (ts : List TextTree) → length ts < 7 → system_of (list p (more k (nodes_of ts))) ≡ fault p 1
few_behind p (list q us) ts lt = refl
few_behind p (atom q bytes) [] lt = refl
few_behind p (atom q bytes) (x1 ∷ []) lt = refl
few_behind p (atom q bytes) (x1 ∷ x2 ∷ []) lt = refl
few_behind p (atom q bytes) (x1 ∷ x2 ∷ x3 ∷ []) lt = refl
few_behind p (atom q bytes) (x1 ∷ x2 ∷ x3 ∷ x4 ∷ []) lt = refl
few_behind p (atom q bytes) (x1 ∷ x2 ∷ x3 ∷ x4 ∷ x5 ∷ []) lt = six_items p q bytes (node_of x1) (node_of x2) (node_of x3) (node_of x4) (node_of x5)
few_behind p (atom q bytes) (x1 ∷ x2 ∷ x3 ∷ x4 ∷ x5 ∷ x6 ∷ []) lt =
    seven_items p q bytes (node_of x1) (node_of x2) (node_of x3) (node_of x4) (node_of x5) (node_of x6)
few_behind p (atom q bytes) (x1 ∷ x2 ∷ x3 ∷ x4 ∷ x5 ∷ x6 ∷ x7 ∷ ts) lt = absurd (omega arith)

pub short_system : (p : ℕ) (ts : List TextTree) → length ts < 8 → system_of (list p (nodes_of ts)) ≡ fault p 1
short_system p [] lt = refl
short_system p (t ∷ ts) lt = few_behind p (node_of t) ts (omega arith)
