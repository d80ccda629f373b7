-- The texts of the bodies keep the form.
use Rattle.std.proofs.Common.{◌≡◌, ◌+◌, ◌<◌, ◌≤◌, ◌^◌, Bool, true, false, List, [], ◌∷◌, length, map, All, Contains, IsTrue, Some, pos, negsuc, refl, sym}
use Rattle.std.{proofs.Common.{subst, lit<, lit≤, flat_map}, specs.Prelude.nat_lt, specs.List.list_all, proofs.lemmas.Bool.{and_parts, ltb-true}}
use Rattle.std.proofs.lemmas.List.Elements.{All-nil, All-cons, All-append}
use Rattle.stack_text.{specs.declared.name.Named.Named, specs.Names.is_name, specs.Numerals.fits_128_bits, specs.Grammar.Parts.IsNamed}
use Rattle.stack_text.specs.Grammar.Printed.{unplaced}
use Rattle.piton_syntax.{specs.declared.op.PitonOp.PitonOp, specs.declared.test_kind.TestFamily.TestFamily, specs.declared.test_kind.TestKind.TestKind}
use Rattle.piton_syntax.{specs.declared.argument.Arguments.Arguments, specs.declared.argument.Arguments.TheVariants.{Zero, One, TestAndLabel}}
use Rattle.piton_syntax.{specs.Operations.{op_arguments, tests_of}, specs.Systems.InstrOf, specs.Fits.{FitsArguments, FitsInstruction, FitsTemporary}}
use Rattle.piton_syntax.specs.declared.op.PitonOp.TheVariants as op
use Rattle.piton_syntax.specs.declared.test_kind.TestFamily.TheVariants as family
use Rattle.piton_syntax.specs.declared.test_kind.TestKind.TheVariants as test
use Rattle.piton_syntax.specs.declared.argument.ArgKind.TheVariants as kind
use Rattle.piton_syntax.specs.declared.argument.ArgText.TheVariants as arg
use Rattle.piton_syntax.specs.declared.word_text.WordItem.TheVariants as item
use Rattle.piton_syntax.specs.Operations as operations
use Rattle.gypsy_syntax.{specs.declared.predef.Predef.Predef, specs.Predefined.predef_name}
use Rattle.gypsy_syntax.specs.declared.predef.Predef.TheVariants as row
use Rattle.gypsy_predef.{specs.declared.line.Local.Local, specs.declared.line.Label.Label, specs.declared.line.Temporary.Temporary}
use Rattle.gypsy_predef.{specs.declared.line.Line.Line, specs.Resolving.BodiesFit, specs.Texts.{local_name, label_name, lines_of, formals_of, temporary_locals}}
use Rattle.gypsy_predef.specs.Texts.{plain, plain_at, of_name, constant, branch_text, fail_label, condition_area, line_text, temporary_text, named_local}
use Rattle.gypsy_predef.specs.declared.line.Local.TheVariants as local
use Rattle.gypsy_predef.specs.declared.line.Label.TheVariants as label
use Rattle.gypsy_predef.specs.declared.line.Temporary.TheVariants as temporary
use Rattle.gypsy_predef.specs.declared.line.Line.TheVariants as line
use Rattle.piton_semantics.proofs.ReadyForms.{is_test}

-- ---- names

pub predef_named : (r : Predef) → IsTrue (is_name (predef_name r))
predef_named row.MgSimpleVariableAssignment = refl
predef_named r = refl

local_names : (x : Local) → IsTrue (is_name (local_name x))
local_names local.A = refl
local_names local.B = refl
local_names local.D = refl
local_names local.I = refl
local_names local.N = refl
local_names local.O = refl
local_names local.P = refl
local_names local.T = refl
local_names local.V = refl
local_names local.X = refl
local_names local.Y = refl
local_names local.Z = refl

label_names : (l : Label) → IsTrue (is_name (label_name l))
label_names label.L1 = refl
label_names label.L2 = refl
label_names label.L3 = refl
label_names label.L4 = refl
label_names label.L5 = refl

formals_fit : (xs : List Local) → All IsNamed (map named_local xs)
formals_fit [] = All-nil IsNamed
formals_fit (x ∷ xs) = All-cons IsNamed (named_local x) (map named_local xs) (local_names x) (formals_fit xs)

-- whether the word of a temporary has at most 128 bits
abbrev word_right : Temporary → Bool
word_right (temporary.Int x z) = fits_128_bits z
word_right (temporary.Nat x (pos n)) = nat_lt n (2 ^ 127)
word_right (temporary.Nat x z) = false
word_right (temporary.Bool x b) = true

temporary_fits : (t : Temporary) → word_right t ≡ true → FitsTemporary (temporary_text t)
temporary_fits (temporary.Int x z) h = (local_names x, h)
temporary_fits (temporary.Nat x (pos n)) h = (local_names x, ltb-true n (2 ^ 127) h)
temporary_fits (temporary.Nat x (negsuc n)) h = cc
temporary_fits (temporary.Bool x b) h = (local_names x, tt)

temporaries_fit : (ts : List Temporary) → list_all word_right ts ≡ true → All FitsTemporary (map temporary_text ts)
temporaries_fit [] h = All-nil FitsTemporary
temporaries_fit (t ∷ ts) h =
    let k = and_parts (word_right t) (list_all word_right ts) h in
    All-cons FitsTemporary (temporary_text t) (map temporary_text ts) (temporary_fits t k.0) (temporaries_fit ts k.1)

words_right : (r : Predef) → list_all word_right (temporary_locals r) ≡ true
words_right row.MgSimpleVariableAssignment = refl
words_right r = refl

-- ---- lines

-- Whether a line has what its operation takes: a local, nothing, or a test of the operation's family.

abbrev takes_local : Arguments → Bool
takes_local (One kind.Local) = true
takes_local a = false

abbrev takes_nothing : Arguments → Bool
takes_nothing Zero = true
takes_nothing a = false

abbrev takes_test : Arguments → TestKind → Bool
takes_test (TestAndLabel f) k = is_test f k
takes_test a k = false

abbrev line_right : Line → Bool
line_right (line.Local o x) = takes_local (op_arguments o)
line_right (line.Plain o) = takes_nothing (op_arguments o)
line_right (line.Integer z) = fits_128_bits z
line_right (line.Test o k) = takes_test (op_arguments o) k
line_right (line.At l o) = takes_nothing (op_arguments o)
line_right (line.Branch o k l) = takes_test (op_arguments o) k
line_right l = true

local_taken : (a : Arguments) → takes_local a ≡ true → a ≡ One kind.Local
local_taken (One kind.Local) h = refl
local_taken a h = cc

nothing_taken : (a : Arguments) → takes_nothing a ≡ true → a ≡ Zero
nothing_taken Zero h = refl
nothing_taken a h = cc

test_there : (f : TestFamily) (k : TestKind) → is_test f k ≡ true → Contains (tests_of f) k
test_there family.Nat test.Zero h = (0, lit< tt, refl)
test_there family.Nat test.NotZero h = (1, lit< tt, refl)
test_there family.Int test.Zero h = (0, lit< tt, refl)
test_there family.Int test.NotZero h = (1, lit< tt, refl)
test_there family.Int test.Neg h = (2, lit< tt, refl)
test_there family.Int test.NotNeg h = (3, lit< tt, refl)
test_there family.Int test.Pos h = (4, lit< tt, refl)
test_there family.Int test.NotPos h = (5, lit< tt, refl)
test_there family.Bool test.T h = (0, lit< tt, refl)
test_there family.Bool test.F h = (1, lit< tt, refl)
test_there family.Bitv test.AllZero h = (0, lit< tt, refl)
test_there family.Bitv test.NotAllZero h = (1, lit< tt, refl)
test_there f k h = cc

test_taken : (a : Arguments) (k : TestKind) (to : Named) → IsNamed to → takes_test a k ≡ true → FitsArguments a (arg.Test k ∷ arg.Name to ∷ [])
test_taken (TestAndLabel f) k to named h = (test_there f k h, named)
test_taken a k to named h = cc

local_fits : (o : PitonOp) (x : Local) → op_arguments o ≡ One kind.Local → FitsInstruction (of_name o (local_name x))
local_fits o x h = record { label = tt; args = subst (λ (a : Arguments). FitsArguments a (arg.Name (named_local x) ∷ [])) (sym h) (local_names x) }

plain_fits : (o : PitonOp) → op_arguments o ≡ Zero → FitsInstruction (plain o)
plain_fits o h = record { label = tt; args = subst (λ (a : Arguments). FitsArguments a []) (sym h) tt }

alone : (i : InstrOf) → FitsInstruction i → All FitsInstruction (i ∷ [])
alone i h = All-cons FitsInstruction i [] h (All-nil FitsInstruction)

both : (i j : InstrOf) → FitsInstruction i → FitsInstruction j → All FitsInstruction (i ∷ j ∷ [])
both i j h k = All-cons FitsInstruction i (j ∷ []) h (alone j k)

plain_at_fits : (l : Label) (o : PitonOp) → op_arguments o ≡ Zero → FitsInstruction (plain_at l o)
plain_at_fits l o h = record { label = label_names l; args = subst (λ (a : Arguments). FitsArguments a []) (sym h) tt }

branch_fits : (o : PitonOp) (k : TestKind) (l : Label) → FitsArguments (op_arguments o) (arg.Test k ∷ arg.Name (unplaced (label_name l)) ∷ [])
    → FitsInstruction (branch_text o k l)
branch_fits o k l h = record { label = tt; args = h }

jump_fits : (l : Label) → FitsInstruction (of_name op.Jump (label_name l))
unfolding operations.row_of
jump_fits l = record { label = tt; args = label_names l }

choose_fits : (l end : Label) → All FitsInstruction (line_text (line.Choose l end))
unfolding operations.row_of
choose_fits l end =
    let first = of_name op.PushLocal (local_name local.Y) in
    let tested = branch_text op.TestIntAndJump test.Neg l in
    let zero = of_name op.PushLocal (local_name local.Z) in
    let jump = of_name op.Jump (label_name end) in
    let below = plain_at l op.NoOp in
    let last = of_name op.PushLocal (local_name local.X) in
    All-cons FitsInstruction first (tested ∷ zero ∷ jump ∷ below ∷ last ∷ []) (local_fits op.PushLocal local.Y refl)
    (All-cons FitsInstruction tested (zero ∷ jump ∷ below ∷ last ∷ []) (branch_fits op.TestIntAndJump test.Neg l ((2, lit< tt, refl), label_names l))
    (All-cons FitsInstruction zero (jump ∷ below ∷ last ∷ []) (local_fits op.PushLocal local.Z refl)
    (All-cons FitsInstruction jump (below ∷ last ∷ []) (jump_fits end)
    (both below last (plain_at_fits l op.NoOp refl) (local_fits op.PushLocal local.X refl)))))

note_fits : All FitsInstruction (line_text line.Note)
unfolding operations.row_of
note_fits =
    let first = of_name op.PushLocal (local_name local.O) in
    let or = plain op.OrBool in
    let last = of_name op.PopLocal (local_name local.O) in
    All-cons FitsInstruction first (or ∷ last ∷ []) (local_fits op.PushLocal local.O refl)
    (both or last (plain_fits op.OrBool refl) (local_fits op.PopLocal local.O refl))

line_fits : (l : Line) → line_right l ≡ true → All FitsInstruction (line_text l)
unfolding operations.row_of
line_fits (line.Get x) h = both (of_name op.PushLocal (local_name x)) (plain op.FetchTempStk) (local_fits op.PushLocal x refl) (plain_fits op.FetchTempStk refl)
line_fits (line.Put d) h =
    both (of_name op.PushLocal (local_name d)) (plain op.DepositTempStk) (local_fits op.PushLocal d refl) (plain_fits op.DepositTempStk refl)
line_fits (line.Local o x) h = alone (of_name o (local_name x)) (local_fits o x (local_taken (op_arguments o) h))
line_fits (line.Plain o) h = alone (plain o) (plain_fits o (nothing_taken (op_arguments o) h))
line_fits (line.Truth b) h = alone _ (record { label = tt; args = tt })
line_fits (line.Integer z) h = alone _ (record { label = tt; args = h })
line_fits (line.Test o k) h = alone _ (record { label = tt; args = test_taken (op_arguments o) k (unplaced fail_label) refl h })
line_fits (line.TruthAt l b) h = alone _ (record { label = label_names l; args = tt })
line_fits (line.At l o) h = alone (plain_at l o) (plain_at_fits l o (nothing_taken (op_arguments o) h))
line_fits (line.Branch o k l) h = alone (branch_text o k l) (branch_fits o k l (test_taken (op_arguments o) k (unplaced (label_name l)) (label_names l) h))
line_fits (line.Choose l end) h = choose_fits l end
line_fits line.Note h = note_fits
line_fits line.Fail h =
    All-cons FitsInstruction (constant (Some (unplaced fail_label)) (item.Nat record { place = 0; number = pos 1 }))
    (of_name op.PopGlobal condition_area ∷ plain op.Ret ∷ []) (record { label = refl; args = lit< tt })
    (both (of_name op.PopGlobal condition_area) (plain op.Ret) (record { label = tt; args = refl }) (plain_fits op.Ret refl))

lines_fit : (ls : List Line) → list_all line_right ls ≡ true → All FitsInstruction (flat_map line_text ls)
lines_fit [] h = All-nil FitsInstruction
lines_fit (l ∷ ls) h =
    let k = and_parts (line_right l) (list_all line_right ls) h in
    All-append FitsInstruction (line_text l) (flat_map line_text ls) (line_fits l k.0) (lines_fit ls k.1)

lines_right : (r : Predef) → list_all line_right (lines_of r) ≡ true
unfolding operations.row_of
lines_right row.MgSimpleVariableAssignment = refl
lines_right r = refl

-- ---- counts

record AreFew (r : Predef) : Type 0 where
  locals : length (map named_local (formals_of r)) + length (map temporary_text (temporary_locals r)) ≤ 400
  some_instrs : 0 < length (flat_map line_text (lines_of r))
  instrs : length (flat_map line_text (lines_of r)) ≤ 1048576

are_few : (r : Predef) → AreFew r
are_few row.MgSimpleVariableAssignment = record { locals = lit≤ tt; some_instrs = lit< tt; instrs = lit≤ tt }
are_few r = record { locals = lit≤ tt; some_instrs = lit< tt; instrs = lit≤ tt }

pub fit : BodiesFit
fit r =
    let few = are_few r in
    record {
      name = predef_named r;
      formals = formals_fit (formals_of r);
      temporaries = temporaries_fit (temporary_locals r) (words_right r);
      instrs = lines_fit (lines_of r) (lines_right r);
      few_locals = few.locals;
      some_instrs = few.some_instrs;
      few_instrs = few.instrs;
    }
