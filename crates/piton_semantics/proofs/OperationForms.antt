-- What an operation on words takes from the temporary stack and leaves there, as numbers.
use Rattle.std.specs.Prelude.{◌≡◌, ℕ, ◌+◌, ◌<◌, ◌^◌, ◌==◌, ◌&&◌, true, List, [], ◌∷◌, ◌++◌, length, get_or}
use Rattle.fm_words.specs.Word.{is_int}
use Rattle.fm_code.{specs.Execution.{Parts, Executes, view}, specs.CodeRows.HasRoom}
use Rattle.piton_words.{specs.declared.word.Word.Word, specs.declared.word.Word.TheVariants.{Int, Nat, Bitv, Bool as Truth, Addr, Pc, Subr}}
use Rattle.piton_words.{specs.declared.op.WordOp.WordOp, specs.declared.outcome.Outcome.Outcome, specs.declared.outcome.Outcome.TheVariants.{One, Two}}
use Rattle.piton_words.specs.declared.op.WordOp.TheVariants as op
use Rattle.piton_semantics.{specs.Step.operation_cost, specs.Addresses.{Addresses, word_number, numbers}, specs.Templates.operation_code}

-- the words that an operation takes, from the top
abbrev pub taken : WordOp → Word → Word → Word → List Word
taken op.Add1Int third second top = top ∷ []
taken op.Add1Nat third second top = top ∷ []
taken op.Sub1Int third second top = top ∷ []
taken op.Sub1Nat third second top = top ∷ []
taken op.NegInt third second top = top ∷ []
taken op.IntToNat third second top = top ∷ []
taken op.Mult2Nat third second top = top ∷ []
taken op.AddIntWithCarry third second top = top ∷ second ∷ third ∷ []
taken op.AddNatWithCarry third second top = top ∷ second ∷ third ∷ []
taken op.SubIntWithCarry third second top = top ∷ second ∷ third ∷ []
taken op.SubNatWithCarry third second top = top ∷ second ∷ third ∷ []
taken op.Mult2NatWithCarryOut third second top = top ∷ []
taken op.Div2Nat third second top = top ∷ []
taken op.NotBitv third second top = top ∷ []
taken op.RshBitv third second top = top ∷ []
taken op.LshBitv third second top = top ∷ []
taken op.NotBool third second top = top ∷ []
taken op third second top = top ∷ second ∷ []

-- two operations leave more than they take
abbrev pub HasRoomFor : WordOp → Parts → List ℕ → Type 0
HasRoomFor op.Mult2NatWithCarryOut P temp = HasRoom P (0 ∷ temp)
HasRoomFor op.Div2Nat P temp = HasRoom P (0 ∷ temp)
HasRoomFor op P temp = Unit {0}

-- what an operation leaves, the second of two words on top
abbrev pub left : Addresses → Outcome → List ℕ → List ℕ
left A (One w) temp = word_number A w ∷ temp
left A (Two a b) temp = word_number A b ∷ word_number A a ∷ temp

-- a word is in its range; an address is in its area, whose length is in lens
abbrev pub IsWordBy : List ℕ → (ℕ → ℕ → Type 0) → (ℕ → Type 0) → Word → Type 0
IsWordBy lens IsPlace IsProgram (Int z) = is_int z ≡ true
IsWordBy lens IsPlace IsProgram (Nat n) = n < 2 ^ 32
IsWordBy lens IsPlace IsProgram (Bitv n) = n < 2 ^ 32
IsWordBy lens IsPlace IsProgram (Truth b) = Unit {0}
IsWordBy lens IsPlace IsProgram (Addr area offset) = offset < get_or lens area 0
IsWordBy lens IsPlace IsProgram (Pc program place) = IsPlace program place
IsWordBy lens IsPlace IsProgram (Subr program) = IsProgram program

-- the addresses of words are 32-bit numbers, and each is that of one word
pub record TellApart (A : Addresses) (lens : List ℕ) (IsPlace : ℕ → ℕ → Type 0) (IsProgram : ℕ → Type 0) : Type 0 where
  pub below : (a o : ℕ) → o < get_or lens a 0 → A.area_at a + o < 2 ^ 32
  pub same_addr : (a o b q : ℕ) → o < get_or lens a 0 → q < get_or lens b 0 →
      (A.area_at a + o == A.area_at b + q) ≡ (a == b && o == q)
  pub same_pc : (a o b q : ℕ) → IsPlace a o → IsPlace b q →
      (A.place_at a o == A.place_at b q) ≡ (a == b && o == q)
  pub same_subr : (a b : ℕ) → IsProgram a → IsProgram b → (A.entry_at a == A.entry_at b) ≡ (a == b)

-- the code of an operation leads from the words that it takes to those that it leaves
abbrev pub DoesOperation : Parts → Addresses → ℕ → ℕ → List ℕ → List ℕ → List ℕ → WordOp → Word → Word → Word → Outcome → Type 0
DoesOperation P A f pc ctrl temp areas o third second top out =
    Executes P (operation_code o) (operation_cost o) (view f pc ctrl (numbers A (taken o third second top) ++ temp) areas)
    (view f (pc + length (operation_code o)) ctrl (left A out temp) areas)
