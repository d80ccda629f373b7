-- What is written means what it was written for: each instruction keeps the form, breaks no rule, and resolves to itself.
use Rattle.std.proofs.Common.{◌≡◌, ℕ, ◌<◌, ◌≤◌, ◌^◌, List, [], ◌∷◌, ◌++◌, map, length, get_or, true, false, cond, Option, Some, None, is_none, unwrap_or, refl}
use Rattle.std.{proofs.Common.{ap, sym, ◌∙◌, arith, ltb, subst, All, Contains, flat_map}, specs.Prelude.{ℤ, pos, negsuc, option_map, IsTrue}}
use Rattle.std.{proofs.lemmas.Bool.{lt-ltb, le-leb, ltb-true}, proofs.lemmas.List.Elements.{All-nil, All-cons}}
use Rattle.fm_words.specs.Word.{is_int, unsigned_32}
use Rattle.piton_words.{specs.declared.word.Word.Word, specs.declared.op.WordOp.WordOp}
use Rattle.piton_words.specs.declared.word.Word.TheVariants as word
use Rattle.piton_words.specs.declared.op.WordOp.TheVariants as word_op
use Rattle.stack_text.{specs.Names.is_name, specs.Numerals.fits_128_bits, specs.Breaches.when}
use Rattle.piton_syntax.specs.declared.argument.ArgKind.TheVariants as kind
use Rattle.piton_syntax.{specs.declared.test_kind.TestFamily.TestFamily, specs.declared.test_kind.TestKind.TestKind, specs.Systems.{InstrOf, ProgramOf}}
use Rattle.piton_syntax.{specs.Systems.SystemOf, specs.Operations.{op_arguments, tests_of, row_of}, specs.Fits.{FitsWord, FitsArgument, FitsArguments}}
use Rattle.piton_syntax.specs.declared.test_kind.TestFamily.TheVariants as family
use Rattle.piton_check.{specs.declared.resolved.ResolvedArg.ResolvedArg, specs.Declarations.{local_names, label_names, program_names, area_names, first_of}}
use Rattle.piton_check.{specs.Meaning.{word_of, count_of}, specs.Violations.{word_breaches, argument_breaches, instruction_breaches}}
use Rattle.piton_check.{specs.Resolved.{resolved_word, resolved_argument, resolved_instruction}, specs.Instruction.{Instruction, instruction_view, with_local}}
use Rattle.piton_check.specs.Instruction.{with_area, with_place, with_program, with_test, place_of}
use Rattle.piton_check.specs.declared.resolved.ResolvedArg.TheVariants as arg
use Rattle.piton_check.specs.Instruction as i
use Rattle.gypsy_syntax.specs.ProgramFits.{Each}
use Rattle.gypsy_codegen.specs.Written.{Names, Plain, label_text, label_arg, written_word, written, with_places}

-- a word that a number or a truth value is, in its range
abbrev pub InRange : Word → Type 0
InRange (word.Int z) = IsTrue (is_int z)
InRange (word.Nat n) = n < 2 ^ 32
InRange (word.Bool b) = Unit {0}
InRange w = ⊥

-- the names of programs and of the one area stand for what they were written for, whichever the program
pub record Base (s : SystemOf) (n : Names) (programs : ℕ) : Type 0 where
  pub program : (c : ℕ) → c < programs → first_of (program_names s) (get_or n.programs c []) ≡ Some c
  pub area : first_of (area_names s) (get_or n.areas 0 []) ≡ Some 0
  pub program_name : (c : ℕ) → c < programs → IsTrue (is_name (get_or n.programs c []))
  pub area_name : IsTrue (is_name (get_or n.areas 0 []))

-- so do the names of so many locals
pub record World (s : SystemOf) (p : ProgramOf) (n : Names) (locals programs : ℕ) : Type 0 where
  pub base : Base s n programs
  pub local : (b : ℕ) → b < locals → first_of (local_names p) (get_or n.locals b []) ≡ Some b
  pub local_name : (b : ℕ) → b < locals → IsTrue (is_name (get_or n.locals b []))

-- a label that stands where f says
abbrev pub Known : ProgramOf → (ℕ → ℕ) → ℕ → Type 0
Known p f l = (first_of (label_names p) (label_text l) ≡ Some (f l)) × IsTrue (is_name (label_text l))

-- what an instruction names is there
abbrev pub Fine : ProgramOf → (ℕ → ℕ) → ℕ → ℕ → Instruction → Type 0
Fine p f locals programs (i.PushConstant w) = InRange w
Fine p f locals programs (i.PushLocal b) = b < locals
Fine p f locals programs (i.PopLocal b) = b < locals
Fine p f locals programs (i.SetLocal b) = b < locals
Fine p f locals programs (i.PushGlobal a) = a ≡ 0
Fine p f locals programs (i.PopGlobal a) = a ≡ 0
Fine p f locals programs (i.SetGlobal a) = a ≡ 0
Fine p f locals programs (i.PushTempStkIndex k) = k ≤ 65536
Fine p f locals programs (i.PopStar k) = k ≤ 65536
Fine p f locals programs (i.Jump to) = Known p f to
Fine p f locals programs (i.JumpIfTempStkFull to) = Known p f to
Fine p f locals programs (i.JumpIfTempStkEmpty to) = Known p f to
Fine p f locals programs (i.JumpCase tos) = (0 < length tos) × Each (Known p f) tos
Fine p f locals programs (i.Pushj to) = Known p f to
Fine p f locals programs (i.TestAndJump g k to) = Contains (tests_of g) k × Known p f to
Fine p f locals programs (i.Call c) = c < programs
Fine p f locals programs ins = Unit {0}

-- the instruction that a text has keeps the form, breaks no rule, and is seen as this one
pub record Means (s : SystemOf) (p : ProgramOf) (t : InstrOf) (ins : Instruction) : Type 0 where
  pub fits : FitsArguments (op_arguments t.op) t.args
  pub clean : instruction_breaches s p t ≡ []
  pub view : instruction_view (resolved_instruction s p t) ≡ ins

-- ---- words and counts

pub natural_is : (n : ℕ) → n < 2 ^ 32 → unsigned_32 (pos n) ≡ Some n
natural_is n lt = ap (λ b. cond b (Some n) None) (lt-ltb n (2 ^ 32) lt)

count_is : (n : ℕ) → n ≤ 65536 → count_of (pos n) ≡ Some n
count_is n le = rw (natural_is n (omega (arith, le)), le-leb n 65536 le) refl

pub word_is : (s : SystemOf) (n : Names) (w : Word) → InRange w → word_of s (written_word n w).item ≡ Some w
word_is s n (word.Int z) h = ap (λ b. option_map word.Int (cond b (Some z) None)) h
word_is s n (word.Nat k) h = ap (option_map word.Nat) (natural_is k h)
word_is s n (word.Bool b) h = refl
word_is s n (word.Bitv k) h = absurd h
word_is s n (word.Addr a o) h = absurd h
word_is s n (word.Pc a o) h = absurd h
word_is s n (word.Subr a) h = absurd h

fits_below : (n : ℕ) → n < 2 ^ 31 → ltb n (2 ^ 127) ≡ true
fits_below n lt = lt-ltb n (2 ^ 127) (omega (arith, lt))

int_fits : (z : ℤ) → is_int z ≡ true → fits_128_bits z ≡ true
int_fits (pos n) h = fits_below n (ltb-true n (2 ^ 31) h)
int_fits (negsuc n) h = fits_below n (ltb-true n (2 ^ 31) h)

pub word_fits : (n : Names) (w : Word) → InRange w → FitsWord (written_word n w)
word_fits n (word.Int z) h = int_fits z h
word_fits n (word.Nat k) h = omega (arith, h)
word_fits n (word.Bool b) h = tt
word_fits n (word.Bitv k) h = absurd h
word_fits n (word.Addr a o) h = absurd h
word_fits n (word.Pc a o) h = absurd h
word_fits n (word.Subr a) h = absurd h

pub word_clean : (s : SystemOf) (n : Names) (w : Word) → InRange w → word_breaches s (written_word n w) ≡ []
word_clean s n w h = ap (λ o. when (is_none o) 0 11) (word_is s n w h)

pub word_resolves : (s : SystemOf) (n : Names) (w : Word) → InRange w → resolved_word s (written_word n w) ≡ w
word_resolves s n w h = ap (λ o. unwrap_or o (word.Bool false)) (word_is s n w h)

-- ---- instructions

-- a name of this kind means what was found
name_clean : (make : ℕ → ResolvedArg) (o : Option ℕ) (v rule : ℕ) → o ≡ Some v → when (is_none (option_map make o)) 0 rule ++ [] ≡ []
name_clean make o v rule e = ap (λ x. when (is_none (option_map make x)) 0 rule ++ []) e

name_view : (see : List ResolvedArg → Instruction) (make : ℕ → ResolvedArg) (o : Option ℕ) (v : ℕ) → o ≡ Some v
    → see (unwrap_or (option_map make o) (arg.Number 0) ∷ []) ≡ see (make v ∷ [])
name_view see make o v e = ap (λ x. see (unwrap_or (option_map make x) (arg.Number 0) ∷ [])) e

module _ (s : SystemOf) (p : ProgramOf) (n : Names) (f : ℕ → ℕ) (locals programs : ℕ) (w : World s p n locals programs) where
  abbrev Says : Instruction → Type 0
  Says ins = Means s p (written n (Plain ins)) (with_places f ins)

  targets_fit : (tos : List ℕ) → Each (Known p f) tos → All (FitsArgument kind.Label) (map label_arg tos)
  targets_fit [] h = All-nil (FitsArgument kind.Label)
  targets_fit (l ∷ tos) h = All-cons (FitsArgument kind.Label) (label_arg l) (map label_arg tos) h.0.1 (targets_fit tos h.1)

  targets_clean : (tos : List ℕ) → Each (Known p f) tos → flat_map (argument_breaches s p kind.Label) (map label_arg tos) ≡ []
  targets_clean [] h = refl
  targets_clean (l ∷ tos) h =
      ap (λ x. when (is_none (option_map arg.Place x)) 0 7 ++ flat_map (argument_breaches s p kind.Label) (map label_arg tos)) h.0.0 ∙ targets_clean tos h.1

  targets_view : (tos : List ℕ) → Each (Known p f) tos → map place_of (map (resolved_argument s p kind.Label) (map label_arg tos)) ≡ map f tos
  targets_view [] h = refl
  targets_view (l ∷ tos) h =
      ap (λ x. place_of (unwrap_or (option_map arg.Place x) (arg.Number 0)) ∷ map place_of (map (resolved_argument s p kind.Label) (map label_arg tos))) h.0.0
      ∙ ap (λ ls. f l ∷ ls) (targets_view tos h.1)

  says_case : (tos : List ℕ) → 0 < length tos → Each (Known p f) tos → Says (i.JumpCase tos)
  unfolding row_of
  says_case [] some h = absurd (omega (arith, some))
  says_case (l ∷ tos) some h = record {
    fits = targets_fit (l ∷ tos) h;
    clean = targets_clean (l ∷ tos) h;
    view = ap i.JumpCase (targets_view (l ∷ tos) h);
  }

  test_clean : (o : Option ℕ) (v : ℕ) → o ≡ Some v → [] ++ (when (is_none (option_map arg.Place o)) 0 7 ++ []) ≡ []
  test_clean o v e = ap (λ x. [] ++ (when (is_none (option_map arg.Place x)) 0 7 ++ [])) e

  says_test : (g : TestFamily) (k : TestKind) (to : ℕ) → Contains (tests_of g) k → Known p f to → Says (i.TestAndJump g k to)
  unfolding row_of
  says_test family.Nat k to c h = record {
    fits = (c, h.1);
    clean = test_clean _ _ h.0;
    view = ap (λ x. with_test family.Nat (arg.Test k ∷ unwrap_or (option_map arg.Place x) (arg.Number 0) ∷ [])) h.0;
  }
  says_test family.Int k to c h = record {
    fits = (c, h.1);
    clean = test_clean _ _ h.0;
    view = ap (λ x. with_test family.Int (arg.Test k ∷ unwrap_or (option_map arg.Place x) (arg.Number 0) ∷ [])) h.0;
  }
  says_test family.Bool k to c h = record {
    fits = (c, h.1);
    clean = test_clean _ _ h.0;
    view = ap (λ x. with_test family.Bool (arg.Test k ∷ unwrap_or (option_map arg.Place x) (arg.Number 0) ∷ [])) h.0;
  }
  says_test family.Bitv k to c h = record {
    fits = (c, h.1);
    clean = test_clean _ _ h.0;
    view = ap (λ x. with_test family.Bitv (arg.Test k ∷ unwrap_or (option_map arg.Place x) (arg.Number 0) ∷ [])) h.0;
  }

  says_apply : (o : WordOp) → Says (i.Apply o)
  unfolding row_of
  says_apply word_op.Eq = record { fits = tt; clean = refl; view = refl }
  says_apply word_op.AddInt = record { fits = tt; clean = refl; view = refl }
  says_apply word_op.AddNat = record { fits = tt; clean = refl; view = refl }
  says_apply word_op.SubInt = record { fits = tt; clean = refl; view = refl }
  says_apply word_op.SubNat = record { fits = tt; clean = refl; view = refl }
  says_apply word_op.AddAddr = record { fits = tt; clean = refl; view = refl }
  says_apply word_op.SubAddr = record { fits = tt; clean = refl; view = refl }
  says_apply word_op.LtInt = record { fits = tt; clean = refl; view = refl }
  says_apply word_op.LtNat = record { fits = tt; clean = refl; view = refl }
  says_apply word_op.LtAddr = record { fits = tt; clean = refl; view = refl }
  says_apply word_op.Add1Int = record { fits = tt; clean = refl; view = refl }
  says_apply word_op.Add1Nat = record { fits = tt; clean = refl; view = refl }
  says_apply word_op.Sub1Int = record { fits = tt; clean = refl; view = refl }
  says_apply word_op.Sub1Nat = record { fits = tt; clean = refl; view = refl }
  says_apply word_op.NegInt = record { fits = tt; clean = refl; view = refl }
  says_apply word_op.IntToNat = record { fits = tt; clean = refl; view = refl }
  says_apply word_op.Mult2Nat = record { fits = tt; clean = refl; view = refl }
  says_apply word_op.AddIntWithCarry = record { fits = tt; clean = refl; view = refl }
  says_apply word_op.AddNatWithCarry = record { fits = tt; clean = refl; view = refl }
  says_apply word_op.SubIntWithCarry = record { fits = tt; clean = refl; view = refl }
  says_apply word_op.SubNatWithCarry = record { fits = tt; clean = refl; view = refl }
  says_apply word_op.Mult2NatWithCarryOut = record { fits = tt; clean = refl; view = refl }
  says_apply word_op.Div2Nat = record { fits = tt; clean = refl; view = refl }
  says_apply word_op.OrBitv = record { fits = tt; clean = refl; view = refl }
  says_apply word_op.AndBitv = record { fits = tt; clean = refl; view = refl }
  says_apply word_op.XorBitv = record { fits = tt; clean = refl; view = refl }
  says_apply word_op.OrBool = record { fits = tt; clean = refl; view = refl }
  says_apply word_op.AndBool = record { fits = tt; clean = refl; view = refl }
  says_apply word_op.NotBitv = record { fits = tt; clean = refl; view = refl }
  says_apply word_op.RshBitv = record { fits = tt; clean = refl; view = refl }
  says_apply word_op.LshBitv = record { fits = tt; clean = refl; view = refl }
  says_apply word_op.NotBool = record { fits = tt; clean = refl; view = refl }

  pub says : (ins : Instruction) → Fine p f locals programs ins → Says ins
  unfolding row_of
  says (i.PushConstant c) h = record {
    fits = word_fits n c h;
    clean = ap (λ bs. bs ++ []) (word_clean s n c h);
    view = ap i.PushConstant (word_resolves s n c h);
  }
  says (i.PushLocal b) h = record {
    fits = w.local_name b h;
    clean = name_clean arg.Local _ _ 9 (w.local b h);
    view = name_view (with_local i.PushLocal) arg.Local _ _ (w.local b h);
  }
  says (i.PopLocal b) h = record {
    fits = w.local_name b h;
    clean = name_clean arg.Local _ _ 9 (w.local b h);
    view = name_view (with_local i.PopLocal) arg.Local _ _ (w.local b h);
  }
  says (i.SetLocal b) h = record {
    fits = w.local_name b h;
    clean = name_clean arg.Local _ _ 9 (w.local b h);
    view = name_view (with_local i.SetLocal) arg.Local _ _ (w.local b h);
  }
  says (i.PushGlobal a) h = subst (λ x. Says (i.PushGlobal x)) (sym h) record {
    fits = w.base.area_name;
    clean = name_clean arg.Area _ _ 10 w.base.area;
    view = name_view (with_area i.PushGlobal) arg.Area _ _ w.base.area;
  }
  says (i.PopGlobal a) h = subst (λ x. Says (i.PopGlobal x)) (sym h) record {
    fits = w.base.area_name;
    clean = name_clean arg.Area _ _ 10 w.base.area;
    view = name_view (with_area i.PopGlobal) arg.Area _ _ w.base.area;
  }
  says (i.SetGlobal a) h = subst (λ x. Says (i.SetGlobal x)) (sym h) record {
    fits = w.base.area_name;
    clean = name_clean arg.Area _ _ 10 w.base.area;
    view = name_view (with_area i.SetGlobal) arg.Area _ _ w.base.area;
  }
  says (i.PushTempStkIndex k) h = record {
    fits = omega (arith, h);
    clean = ap (λ o. when (is_none o) 0 13 ++ []) (count_is k h);
    view = ap (λ o. i.PushTempStkIndex (unwrap_or o 0)) (count_is k h);
  }
  says (i.PopStar k) h = record {
    fits = omega (arith, h);
    clean = ap (λ o. when (is_none o) 0 13 ++ []) (count_is k h);
    view = ap (λ o. i.PopStar (unwrap_or o 0)) (count_is k h);
  }
  says (i.Jump to) h = record {
    fits = h.1;
    clean = name_clean arg.Place _ _ 7 h.0;
    view = name_view (with_place i.Jump) arg.Place _ _ h.0;
  }
  says (i.JumpIfTempStkFull to) h = record {
    fits = h.1;
    clean = name_clean arg.Place _ _ 7 h.0;
    view = name_view (with_place i.JumpIfTempStkFull) arg.Place _ _ h.0;
  }
  says (i.JumpIfTempStkEmpty to) h = record {
    fits = h.1;
    clean = name_clean arg.Place _ _ 7 h.0;
    view = name_view (with_place i.JumpIfTempStkEmpty) arg.Place _ _ h.0;
  }
  says (i.Pushj to) h = record {
    fits = h.1;
    clean = name_clean arg.Place _ _ 7 h.0;
    view = name_view (with_place i.Pushj) arg.Place _ _ h.0;
  }
  says (i.JumpCase tos) h = says_case tos h.0 h.1
  says (i.TestAndJump g k to) h = says_test g k to h.0 h.1
  says (i.Call c) h = record {
    fits = w.base.program_name c h;
    clean = name_clean arg.Program _ _ 8 (w.base.program c h);
    view = name_view (with_program i.Call) arg.Program _ _ (w.base.program c h);
  }
  says (i.Apply o) h = says_apply o
  says i.PushTempStkFreeSize h = record { fits = tt; clean = refl; view = refl }
  says i.PushCtrlStkFreeSize h = record { fits = tt; clean = refl; view = refl }
  says i.FetchTempStk h = record { fits = tt; clean = refl; view = refl }
  says i.DepositTempStk h = record { fits = tt; clean = refl; view = refl }
  says i.Fetch h = record { fits = tt; clean = refl; view = refl }
  says i.Deposit h = record { fits = tt; clean = refl; view = refl }
  says i.Pop h = record { fits = tt; clean = refl; view = refl }
  says i.Popn h = record { fits = tt; clean = refl; view = refl }
  says i.NoOp h = record { fits = tt; clean = refl; view = refl }
  says i.Popj h = record { fits = tt; clean = refl; view = refl }
  says i.PopCall h = record { fits = tt; clean = refl; view = refl }
  says i.Ret h = record { fits = tt; clean = refl; view = refl }
