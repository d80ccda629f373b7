-- The instruction at a place, as it was resolved, and its group.
use Rattle.std.{proofs.Common.{◌≡◌, ℕ, zero, suc, Some, List, [], ◌∷◌, map, refl, sym, ap, ◌∙◌, subst}, specs.Prelude.{IfSome, option_map, slice_get}}
use Rattle.std.specs.Prelude.{slice_index_or}
use Rattle.piton_words.specs.declared.word.Word.{Word as PitonWord}
use Rattle.piton_syntax.{specs.declared.op.PitonOp.PitonOp, specs.declared.test_kind.TestFamily.TestFamily, specs.declared.test_kind.TestKind.TestKind}
use Rattle.piton_syntax.specs.declared.op.PitonOp.TheVariants as op
use Rattle.piton_syntax.specs.declared.test_kind.TestFamily.TheVariants as family
use Rattle.piton_check.{specs.declared.piece.Piece.Piece, specs.PitonChecking.CheckedOf, specs.declared.resolved.ResolvedArg.ResolvedArg}
use Rattle.piton_check.specs.Instruction.{Instruction, instruction_of, instruction_view, program_view, system_view, with_word, with_number, with_local}
use Rattle.piton_check.{specs.Instruction.{with_place, with_area, with_program, with_test}, specs.Resolved.{ResolvedInstrOf, ResolvedProgramOf, ResolvedOf}}
use Rattle.piton_check.specs.Sound.{local_count}
use Rattle.piton_check.specs.declared.resolved.ResolvedArg.TheVariants as arg
use Rattle.piton_check.specs.Instruction as i
use Rattle.piton_semantics.{specs.declared.group.Group.Group, specs.declared.group.Group.TheVariants.{Move, Jump, Word}, specs.State.program_of}
use Rattle.piton_semantics.{specs.State.instruction_at, specs.Fits.system_in, specs.Groups.{group_of, resolved_at, IsOfGroup, only_of}}
use Rattle.piton_semantics.specs.Templates.{pieces_of, pieces_by, pieces_at}

get_view : (is : List ResolvedInstrOf) (place : ℕ) → slice_get (map instruction_view is) place ≡ option_map instruction_view (slice_get is place)
get_view [] place = refl
get_view (x ∷ is) zero = refl
get_view (x ∷ is) (suc place) = get_view is place

program_there : (ps : List ResolvedProgramOf) (program place : ℕ) →
    slice_get (slice_index_or (map program_view ps) program record { formals = 0; temporaries = []; instructions = [] }).instructions place
    ≡ option_map instruction_view (slice_get (slice_index_or ps program record { formals = 0; temporaries = []; instrs = [] }).instrs place)
program_there [] program place = refl
program_there (p ∷ ps) zero place = get_view p.instrs place
program_there (p ∷ ps) (suc program) place = program_there ps program place

pub instruction_resolved : (r : ResolvedOf) (program place : ℕ) → instruction_at (system_view r) program place
    ≡ option_map instruction_view (resolved_at r program place)
instruction_resolved r program place = program_there r.programs program place

-- what holds of an instruction at each argument, and where the argument is missing
word_either : (P : Instruction → Type 0) (make : PitonWord → Instruction) (args : List ResolvedArg) → ((word : PitonWord) → P (make word)) → P i.NoOp
    → P (with_word make args)
word_either P make (arg.Word word ∷ []) made missing = made word
word_either P make args made missing = missing

number_either : (P : Instruction → Type 0) (make : ℕ → Instruction) (args : List ResolvedArg) → ((n : ℕ) → P (make n)) → P i.NoOp → P (with_number make args)
number_either P make (arg.Number n ∷ []) made missing = made n
number_either P make args made missing = missing

local_either : (P : Instruction → Type 0) (make : ℕ → Instruction) (args : List ResolvedArg) → ((offset : ℕ) → P (make offset)) → P i.NoOp
    → P (with_local make args)
local_either P make (arg.Local offset ∷ []) made missing = made offset
local_either P make args made missing = missing

place_either : (P : Instruction → Type 0) (make : ℕ → Instruction) (args : List ResolvedArg) → ((place : ℕ) → P (make place)) → P i.NoOp
    → P (with_place make args)
place_either P make (arg.Place place ∷ []) made missing = made place
place_either P make args made missing = missing

area_either : (P : Instruction → Type 0) (make : ℕ → Instruction) (args : List ResolvedArg) → ((area : ℕ) → P (make area)) → P i.NoOp → P (with_area make args)
area_either P make (arg.Area area ∷ []) made missing = made area
area_either P make args made missing = missing

program_either : (P : Instruction → Type 0) (make : ℕ → Instruction) (args : List ResolvedArg) → ((program : ℕ) → P (make program)) → P i.NoOp
    → P (with_program make args)
program_either P make (arg.Program program ∷ []) made missing = made program
program_either P make args made missing = missing

test_either : (P : Instruction → Type 0) (f : TestFamily) (args : List ResolvedArg) → ((kind : TestKind) (place : ℕ) → P (i.TestAndJump f kind place))
    → P i.NoOp → P (with_test f args)
test_either P f (arg.Test kind ∷ arg.Place place ∷ []) made missing = made kind place
test_either P f args made missing = missing

-- an operation's pieces are those of its own group
own_pieces : (o : PitonOp) (args : List ResolvedArg) (pieces : List Piece) → only_of (group_of o) (instruction_of o args) pieces ≡ pieces
own_pieces op.PushConstant args pieces = word_either (λ x. only_of Move x pieces ≡ pieces) i.PushConstant args (λ x. refl) refl
own_pieces op.PushLocal args pieces = local_either (λ x. only_of Move x pieces ≡ pieces) i.PushLocal args (λ x. refl) refl
own_pieces op.PopLocal args pieces = local_either (λ x. only_of Move x pieces ≡ pieces) i.PopLocal args (λ x. refl) refl
own_pieces op.SetLocal args pieces = local_either (λ x. only_of Move x pieces ≡ pieces) i.SetLocal args (λ x. refl) refl
own_pieces op.PushGlobal args pieces = area_either (λ x. only_of Move x pieces ≡ pieces) i.PushGlobal args (λ x. refl) refl
own_pieces op.PopGlobal args pieces = area_either (λ x. only_of Move x pieces ≡ pieces) i.PopGlobal args (λ x. refl) refl
own_pieces op.SetGlobal args pieces = area_either (λ x. only_of Move x pieces ≡ pieces) i.SetGlobal args (λ x. refl) refl
own_pieces op.PushTempStkIndex args pieces = number_either (λ x. only_of Move x pieces ≡ pieces) i.PushTempStkIndex args (λ x. refl) refl
own_pieces op.PopStar args pieces = number_either (λ x. only_of Move x pieces ≡ pieces) i.PopStar args (λ x. refl) refl
own_pieces op.Jump args pieces = place_either (λ x. only_of Jump x pieces ≡ pieces) i.Jump args (λ x. refl) refl
own_pieces op.JumpIfTempStkFull args pieces = place_either (λ x. only_of Jump x pieces ≡ pieces) i.JumpIfTempStkFull args (λ x. refl) refl
own_pieces op.JumpIfTempStkEmpty args pieces = place_either (λ x. only_of Jump x pieces ≡ pieces) i.JumpIfTempStkEmpty args (λ x. refl) refl
own_pieces op.Pushj args pieces = place_either (λ x. only_of Jump x pieces ≡ pieces) i.Pushj args (λ x. refl) refl
own_pieces op.Call args pieces = program_either (λ x. only_of Jump x pieces ≡ pieces) i.Call args (λ x. refl) refl
own_pieces op.TestNatAndJump args pieces = test_either (λ x. only_of Jump x pieces ≡ pieces) family.Nat args (λ kind place. refl) refl
own_pieces op.TestIntAndJump args pieces = test_either (λ x. only_of Jump x pieces ≡ pieces) family.Int args (λ kind place. refl) refl
own_pieces op.TestBoolAndJump args pieces = test_either (λ x. only_of Jump x pieces ≡ pieces) family.Bool args (λ kind place. refl) refl
own_pieces op.TestBitvAndJump args pieces = test_either (λ x. only_of Jump x pieces ≡ pieces) family.Bitv args (λ kind place. refl) refl
own_pieces o args pieces = refl

module _ (c : CheckedOf) (r : ResolvedOf) (program place : ℕ) (instr : ResolvedInstrOf) (same : r ≡ c.resolved)
    (there : resolved_at r program place ≡ Some instr) where
  here : resolved_at c.resolved program place ≡ Some instr
  here = subst (λ (u : ResolvedOf). resolved_at u program place ≡ Some instr) same there

  group_here : (g : Group) → IsOfGroup g c.resolved program place → group_of instr.op ≡ g
  group_here g of = subst (λ x. IfSome x (λ (found : ResolvedInstrOf). group_of found.op ≡ g)) here of

  pub instruction_here : instruction_at (system_in c) program place ≡ Some (instruction_view instr)
  instruction_here = instruction_resolved c.resolved program place ∙ ap (option_map instruction_view) here

  -- the pieces of what it is decoded as are those of the place
  pub pieces_here : (g : Group) (instruction : Instruction) → instruction ≡ instruction_view instr → IsOfGroup g c.resolved program place →
      only_of g instruction (pieces_of program place (local_count (program_of (system_in c) program)) instruction) ≡ pieces_at (system_in c) program place
  pieces_here g instruction is of =
      let s = system_in c in
      let pieces : Instruction → List Piece = pieces_of program place (local_count (program_of s program)) in
      ap (λ x. only_of g x (pieces x)) is
      ∙ ap (λ h. only_of h (instruction_view instr) (pieces (instruction_view instr))) (sym (group_here g of))
      ∙ own_pieces instr.op instr.args (pieces (instruction_view instr))
      ∙ sym (ap (pieces_by s program place) instruction_here)
