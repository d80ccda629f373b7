-- The expressions that the code writes are those of the gates.
use Rattle.std.proofs.Common.{◌≡◌, ℕ, zero, suc, ◌+◌, ◌-◌, ◌^◌, ◌<◌, Bool, true, false, List, [], ◌∷◌, ◌++◌, codes, drop, refl, ap, sym, ◌∙◌, arith}
use Rattle.std.{proofs.Common.{append_assoc, if◌then◌else◌}, proofs.lemmas.Nat.Bits.bit_at-lt, proofs.lemmas.Bool.eqb-true, specs.Fmt.digits, specs.Prelude.map}
use Rattle.std.{specs.Prelude.{nat_lt, ◌==◌}, specs.Int.bit_at}
use Rattle.fm_circuit.{specs.declared.wire.Wire.Wire, specs.declared.circuit.Pin.Pin, specs.declared.circuit.Pin.TheVariants.{Whole, Bits, Constant}}
use Rattle.fm_circuit.{specs.declared.circuit.Driver.Driver, specs.Circuit.pin_width}
use Rattle.fm_circuit.specs.declared.wire.Wire.TheVariants as w
use Rattle.fm_circuit.specs.declared.circuit.Driver.TheVariants as d
use Rattle.fm_gates.specs.Gates.{Gate, FileBit, CarryBit, Differ, Pick, constant_gate, pin_gate, carry_gate, equal_gate, choice_gate, choice_of_pins, file_gate}
use Rattle.fm_netlist.{specs.NetlistText.{below, carry_text, file_text, gate_text, line_gate}, specs.Pieces.{constant_text, pin_text, between, choice_0}}
use Rattle.fm_netlist.specs.Pieces.{choice_1, choice_2, choice_3, choice_4, word_0, word_1, word_2, word_3, word_4, agreeing_text, opening_text, equal_text}
use Rattle.fm_netlist.specs.Pieces.{bit_text, carried_text, written_text, taken_text, kept_text}

constant_is : (n : ℕ) → n < 2 → constant_text n ≡ gate_text (constant_gate n)
unfolding gate_text digits
constant_is zero h = refl
constant_is (suc zero) h = refl
constant_is (suc (suc n)) h = absurd (omega arith)

pub pin_is : (p : Pin) (i : ℕ) → pin_text p i ≡ gate_text (pin_gate p i)
unfolding gate_text
pin_is (Whole wire) i = refl
pin_is (Bits wire high low) i = refl
pin_is (Constant width value) i = constant_is (bit_at value i) (bit_at-lt value i)

if_is : (t : Bool) (g h : Gate) → (if t then gate_text g else gate_text h) ≡ gate_text (if t then g else h)
if_is true g h = refl
if_is false g h = refl

-- a choice between two halves
pick_is : (by : Pin) (k : ℕ) (g h : Gate) (low high : List ℕ) → low ≡ gate_text g → high ≡ gate_text h
    → codes "(" ++ pin_text by k ++ codes " ? " ++ high ++ codes " : " ++ low ++ codes ")" ≡ gate_text (Pick (pin_gate by k) g h)
unfolding gate_text
pick_is by k g h low high e f = λ j. codes "(" ++ pin_is by k j ++ codes " ? " ++ f j ++ codes " : " ++ e j ++ codes ")"

map_drop : (n : ℕ) (among : List Pin) (i : ℕ) → map (λ p. pin_gate p i) (drop n among) ≡ drop n (map (λ p. pin_gate p i) among)
map_drop zero among i = refl
map_drop (suc n) [] i = refl
map_drop (suc n) (p ∷ ps) i = map_drop n ps i

-- a choice of one of twice as many pins
halves : (k : ℕ) (by : Pin) (among : List Pin) (i : ℕ) (low high : List ℕ)
    → low ≡ gate_text (choice_of_pins k by among i) → high ≡ gate_text (choice_of_pins k by (drop (2 ^ k) among) i)
    → codes "(" ++ pin_text by k ++ codes " ? " ++ high ++ codes " : " ++ low ++ codes ")" ≡ gate_text (choice_of_pins (suc k) by among i)
unfolding choice_gate
halves k by among i low high e f =
    let gates : List Gate = map (λ p. pin_gate p i) among in
    pick_is by k (choice_gate k by gates) (choice_gate k by (drop (2 ^ k) gates)) low high e
    (f ∙ ap (λ (gs : List Gate). gate_text (choice_gate k by gs)) (map_drop (2 ^ k) among i))

choice_0_is : (by : Pin) (among : List Pin) (i : ℕ) → choice_0 by among i ≡ gate_text (choice_of_pins 0 by among i)
unfolding choice_0 gate_text choice_gate
choice_0_is by [] i = refl
choice_0_is by (p ∷ ps) i = pin_is p i

choice_1_is : (by : Pin) (among : List Pin) (i : ℕ) → choice_1 by among i ≡ gate_text (choice_of_pins 1 by among i)
unfolding choice_1
choice_1_is by among i =
    halves 0 by among i (choice_0 by among i) (choice_0 by (drop 1 among) i) (choice_0_is by among i) (choice_0_is by (drop 1 among) i)

choice_2_is : (by : Pin) (among : List Pin) (i : ℕ) → choice_2 by among i ≡ gate_text (choice_of_pins 2 by among i)
unfolding choice_2
choice_2_is by among i =
    halves 1 by among i (choice_1 by among i) (choice_1 by (drop 2 among) i) (choice_1_is by among i) (choice_1_is by (drop 2 among) i)

choice_3_is : (by : Pin) (among : List Pin) (i : ℕ) → choice_3 by among i ≡ gate_text (choice_of_pins 3 by among i)
unfolding choice_3
choice_3_is by among i =
    halves 2 by among i (choice_2 by among i) (choice_2 by (drop 4 among) i) (choice_2_is by among i) (choice_2_is by (drop 4 among) i)

choice_4_is : (by : Pin) (among : List Pin) (i : ℕ) → choice_4 by among i ≡ gate_text (choice_of_pins 4 by among i)
unfolding choice_4
choice_4_is by among i =
    halves 3 by among i (choice_3 by among i) (choice_3 by (drop 8 among) i) (choice_3_is by among i) (choice_3_is by (drop 8 among) i)

-- the words of the register file from one on, before others
abbrev two : ℕ → ℕ → List Gate → List Gate
two r i gates = FileBit r i ∷ FileBit (r + 1) i ∷ gates

abbrev four : ℕ → ℕ → List Gate → List Gate
four r i gates = two r i (two (r + 2) i gates)

abbrev eight : ℕ → ℕ → List Gate → List Gate
eight r i gates = four r i (four (r + 4) i gates)

word_0_is : (by : Pin) (r i : ℕ) (gates : List Gate) → word_0 by r i ≡ gate_text (choice_gate 0 by (FileBit r i ∷ gates))
unfolding word_0 choice_gate gate_text
word_0_is by r i gates = refl

word_1_is : (by : Pin) (r i : ℕ) (gates : List Gate) → word_1 by r i ≡ gate_text (choice_gate 1 by (two r i gates))
unfolding word_1 choice_gate
word_1_is by r i gates =
    let above : List Gate = FileBit (r + 1) i ∷ gates in
    pick_is by 0 (choice_gate 0 by (two r i gates)) (choice_gate 0 by above) (word_0 by r i) (word_0 by (r + 1) i)
    (word_0_is by r i above) (word_0_is by (r + 1) i gates)

word_2_is : (by : Pin) (r i : ℕ) (gates : List Gate) → word_2 by r i ≡ gate_text (choice_gate 2 by (four r i gates))
unfolding word_2 choice_gate
word_2_is by r i gates =
    let above : List Gate = two (r + 2) i gates in
    pick_is by 1 (choice_gate 1 by (four r i gates)) (choice_gate 1 by above) (word_1 by r i) (word_1 by (r + 2) i)
    (word_1_is by r i above) (word_1_is by (r + 2) i gates)

word_3_is : (by : Pin) (r i : ℕ) (gates : List Gate) → word_3 by r i ≡ gate_text (choice_gate 3 by (eight r i gates))
unfolding word_3 choice_gate
word_3_is by r i gates =
    let above : List Gate = four (r + 4) i gates in
    pick_is by 2 (choice_gate 2 by (eight r i gates)) (choice_gate 2 by above) (word_2 by r i) (word_2 by (r + 4) i)
    (word_2_is by r i above) (word_2_is by (r + 4) i gates)

word_4_is : (by : Pin) (i : ℕ) → word_4 by i ≡ gate_text (choice_gate 4 by (eight 0 i (eight 8 i [])))
unfolding word_4 choice_gate
word_4_is by i =
    let above : List Gate = eight 8 i [] in
    pick_is by 3 (choice_gate 3 by (eight 0 i above)) (choice_gate 3 by above) (word_3 by 0 i) (word_3 by 8 i)
    (word_3_is by 0 i above) (word_3_is by 8 i [])

-- the parentheses of a conjunction
opening_first : (n : ℕ) → below opening_text n ++ codes "(" ≡ codes "(" ++ below opening_text n
unfolding below
opening_first zero = refl
opening_first (suc n) = ap (λ (xs : List ℕ). xs ++ codes "(") (opening_first n)

between_is : (operator : List ℕ) (p q : Pin) (i : ℕ)
    → between operator p q i ≡ codes "(" ++ gate_text (pin_gate p i) ++ operator ++ gate_text (pin_gate q i) ++ codes ")"
between_is operator p q i = λ j. codes "(" ++ pin_is p i j ++ operator ++ pin_is q i j ++ codes ")"

differ_is : (p q : Pin) (i : ℕ) → between (codes " ^ ") p q i ≡ gate_text (Differ (pin_gate p i) (pin_gate q i))
unfolding gate_text
differ_is p q i = between_is (codes " ^ ") p q i

-- one text more, after a first that is no matter
longer : (first so_far more text : List ℕ) → text ≡ first ++ so_far → text ++ more ≡ first ++ (so_far ++ more)
longer first so_far more text e = ap (λ (t : List ℕ). t ++ more) e ∙ append_assoc first so_far more

-- one bit more of a conjunction
moved : (o i a g d : List ℕ) → o ++ codes "(" ≡ codes "(" ++ o → o ++ i ++ a ≡ g
    → (o ++ codes "(") ++ i ++ (a ++ (codes " & ~" ++ d ++ codes ")")) ≡ codes "(" ++ g ++ codes " & " ++ (codes "~" ++ d) ++ codes ")"
moved o i a g d opened e =
    let last : List ℕ = codes " & ~" ++ d ++ codes ")" in
    ap (λ (t : List ℕ). t ++ i ++ (a ++ last)) opened
    ∙ ap (λ (t : List ℕ). codes "(" ++ t) (sym (append_assoc (o ++ i) a last))
    ∙ ap (λ (t : List ℕ). codes "(" ++ (t ++ last)) e
    ∙ ap (λ (t : List ℕ). codes "(" ++ t) (sym (
    longer g (codes " & ~" ++ d) (codes ")") (g ++ codes " & " ++ (codes "~" ++ d)) (append_assoc g (codes " & ") (codes "~" ++ d))))

pub equal_is : (p q : Pin) (n : ℕ) → equal_text p q n ≡ gate_text (equal_gate p q n)
unfolding below gate_text equal_gate
equal_is p q zero = refl
equal_is p q (suc n) =
    let so_far : List ℕ = below (agreeing_text p q) n in
    (λ j. (below opening_text n ++ codes "(") ++ codes "1'd1" ++ (so_far ++ (codes " & ~" ++ differ_is p q n j ++ codes ")")))
    ∙ moved (below opening_text n) (codes "1'd1") so_far (gate_text (equal_gate p q n))
    (gate_text (Differ (pin_gate p n) (pin_gate q n))) (opening_first n) (equal_is p q n)

-- what stands after a condition
closed : (t p f : List ℕ)
    → t ++ (codes ")) ? " ++ p ++ codes " : " ++ f ++ codes ")") ≡ t ++ codes ")" ++ codes ")" ++ codes " ? " ++ p ++ codes " : " ++ f ++ codes ")"
closed t p f =
    let a : t ++ codes ")" ++ codes ")" ≡ t ++ codes "))" = longer t (codes ")") (codes ")") (t ++ codes ")") refl in
    let b : t ++ codes ")" ++ codes ")" ++ codes " ? " ≡ t ++ codes ")) ? " =
    longer t (codes "))") (codes " ? ") (t ++ codes ")" ++ codes ")") a in
    let c : t ++ codes ")" ++ codes ")" ++ codes " ? " ++ p ≡ t ++ (codes ")) ? " ++ p) =
    longer t (codes ")) ? ") p (t ++ codes ")" ++ codes ")" ++ codes " ? ") b in
    let d : t ++ codes ")" ++ codes ")" ++ codes " ? " ++ p ++ codes " : " ≡ t ++ (codes ")) ? " ++ p ++ codes " : ") =
    longer t (codes ")) ? " ++ p) (codes " : ") (t ++ codes ")" ++ codes ")" ++ codes " ? " ++ p) c in
    let e : t ++ codes ")" ++ codes ")" ++ codes " ? " ++ p ++ codes " : " ++ f ≡ t ++ (codes ")) ? " ++ p ++ codes " : " ++ f) =
    longer t (codes ")) ? " ++ p ++ codes " : ") f (t ++ codes ")" ++ codes ")" ++ codes " ? " ++ p ++ codes " : ") d in
    sym (longer t (codes ")) ? " ++ p ++ codes " : " ++ f) (codes ")") (t ++ codes ")" ++ codes ")" ++ codes " ? " ++ p ++ codes " : " ++ f) e)

pub written_is : (r i : ℕ) → kept_text r i ≡ gate_text (file_gate r i)
unfolding written_text taken_text gate_text
written_is r i =
    let gate : Gate = equal_gate (Whole w.Number) (Constant 4 r) 4 in
    ap (λ (t : List ℕ). written_text (Whole w.FileWrite) ++ t ++ taken_text (Whole w.FileData) r i) (equal_is (Whole w.Number) (Constant 4 r) 4)
    ∙ ap (λ (t : List ℕ). codes "((~reset & (" ++ t)
    (closed (pin_text (Whole w.FileWrite) 0 ++ codes " & " ++ gate_text gate) (pin_text (Whole w.FileData) i) (file_text r i))

sum_is : (wire : Wire) (p q : Pin) (i : ℕ) (t : Bool)
    → (if t then codes "(" ++ between (codes " ^ ") p q i ++ codes " ^ " ++ carry_text wire i ++ codes ")" else carry_text wire i)
    ≡ gate_text (if t then Differ (Differ (pin_gate p i) (pin_gate q i)) (CarryBit wire i) else CarryBit wire i)
unfolding gate_text
sum_is wire p q i true = λ j. codes "(" ++ differ_is p q i j ++ codes " ^ " ++ carry_text wire i ++ codes ")"
sum_is wire p q i false = refl

join_is : (p q : Pin) (i : ℕ) (t : Bool)
    → (if t then pin_text q i else pin_text p (i - pin_width q)) ≡ gate_text (if t then pin_gate q i else pin_gate p (i - pin_width q))
join_is p q i true = pin_is q i
join_is p q i false = pin_is p (i - pin_width q)

pub bit_is : (wire : Wire) (driver : Driver) (i : ℕ) → bit_text wire driver i ≡ gate_text (line_gate wire driver i)
unfolding bit_text gate_text line_gate
bit_is wire (d.Register number reset next) i =
    λ j. codes "(reset ? " ++ constant_is (bit_at reset i) (bit_at-lt reset i) j ++ codes " : " ++ pin_is next i j ++ codes ")"
bit_is wire (d.Input number) i = refl
bit_is wire (d.FileRead number) i = word_4_is number i
bit_is wire (d.Not p) i = ap (λ t. codes "~" ++ t) (pin_is p i)
bit_is wire (d.And p q) i = between_is (codes " & ") p q i
bit_is wire (d.Or p q) i = between_is (codes " | ") p q i
bit_is wire (d.Xor p q) i = between_is (codes " ^ ") p q i
bit_is wire (d.Join p q) i = join_is p q i (nat_lt i (pin_width q))
bit_is wire (d.Add p q carry) i = sum_is wire p q i (nat_lt i (pin_width p))
bit_is wire (d.Equal p q) i = equal_is p q (pin_width p)
bit_is wire (d.Two by among) i = choice_1_is by among i
bit_is wire (d.Four by among) i = choice_2_is by among i
bit_is wire (d.Eight by among) i = choice_3_is by among i
bit_is wire (d.Sixteen by among) i = choice_4_is by among i

not_first : (t : Bool) (i : ℕ) (first other : List ℕ) → (t ≡ true → suc i ≡ 0) → (if t then first else other) ≡ other
not_first true i first other is = absurd (omega (arith, is refl))
not_first false i first other is = refl

-- what carries into the bit above a bit
abbrev above : Wire → Pin → Pin → ℕ → List ℕ
above wire p q i = codes "(" ++ between (codes " ^ ") p q i ++ codes " ? " ++ carry_text wire i ++ codes " : " ++ pin_text p i ++ codes ")"

pub carry_is : (wire : Wire) (p q carry : Pin) (i : ℕ) → carried_text wire p q carry i ≡ gate_text (carry_gate wire (d.Add p q carry) i)
unfolding gate_text
carry_is wire p q carry zero = pin_is carry 0
carry_is wire p q carry (suc i) =
    let e : suc i - 1 ≡ i = omega arith in
    not_first (suc i == 0) i (pin_text carry 0) (above wire p q (suc i - 1)) (eqb-true (suc i) 0)
    ∙ ap (above wire p q) e
    ∙ (λ j. codes "(" ++ differ_is p q i j ++ codes " ? " ++ carry_text wire i ++ codes " : " ++ pin_is p i j ++ codes ")")
