-- Each step of a sound system leads from a state to a state.
use Rattle.std.proofs.Common.{◌≡◌, ℕ, zero, suc, ◌+◌, ◌-◌, ◌≤◌, ◌<◌, Ok, Some, None, Bool, true, false, List, [], ◌∷◌, length, map, reverse, take, drop, refl}
use Rattle.std.{proofs.Common.{ap, sym, ◌∙◌, subst, arith, length-append, length-drop}, specs.Prelude.{◌==◌, nat_lt, get_or, slice_get, slice_set}}
use Rattle.std.{specs.Prelude.if◌then◌else◌, proofs.lemmas.Bool.{ltb-true, leb-true, eqb-true}, proofs.lemmas.List.{length-set, length-reverse, length-take-le}}
use Rattle.std.{proofs.lemmas.Option.{slice_get_within, get_or_from_slice_get}, proofs.Math.Seq.map-set_same}
use Rattle.piton_words.{specs.declared.word.Word.Word, specs.declared.word.Word.TheVariants.{Nat, Pc}, specs.declared.op.WordOp.WordOp}
use Rattle.piton_words.specs.OperationRows as words
use Rattle.piton_semantics.{specs.declared.error_kind.ErrorKind.TheVariants.{TempEmpty, Range, TempFull, CtrlFull}, specs.State.{Frame, PitonState, program_of}}
use Rattle.piton_semantics.{specs.State.{ctrl_used, locals_of, with_local, word_at, with_word, element, with_element}, specs.Views.{One, Two, one_of, two_of}}
use Rattle.piton_semantics.{specs.Views.{Operands, words_taken, operands_of}, specs.InstructionRows.{to_place, to_next, with_room, pushed, jump_where}}
use Rattle.piton_semantics.{specs.InstructionRows.{frame_of, call, ret, does_grow, results_on, apply, row_of}, specs.Step.{step_from, piton_step}}
use Rattle.piton_semantics.{specs.Fits.{Each, IsPlace, IsWordOf, IsInstructionOf, IsWellFormed, AreFrames, IsState}, proofs.WordViewLaws.same_Ok}
use Rattle.piton_semantics.{proofs.ResultLaws.{results_are, pushes_no_more, pushes_one_more}, proofs.ViewLaws.{went_on, held, found_is, one_is, two_are, pc_is}}
use Rattle.piton_semantics.{proofs.ViewLaws.lifted_is, proofs.EachLaws.{each_get, each_set, each_take, each_drop, each_append, each_reverse, each_at}}
use Rattle.piton_check.specs.Instruction as i
use Rattle.piton_check.specs.Instruction.{Instruction, ProgramView, SystemView}

-- What lies on a stack, taken apart.
pub record OneThere (s : SystemView) (stack : List Word) (one : One) : Type 0 where
  pub top : IsWordOf s one.top
  pub below : Each (IsWordOf s) one.below
  pub size : length stack ≡ 1 + length one.below

pub one_there : (s : SystemView) (stack : List Word) (one : One) →
    Each (IsWordOf s) stack → one_of stack ≡ Ok one → OneThere s stack one
one_there s stack one all h =
    let e = one_is stack one h in
    let all' = subst (Each (IsWordOf s)) e all in
    record { top = all'.0; below = all'.1; size = omega (arith, ap length e) }

pub record TwoThere (s : SystemView) (stack : List Word) (two : Two) : Type 0 where
  pub top : IsWordOf s two.top
  pub second : IsWordOf s two.second
  pub below : Each (IsWordOf s) two.below
  pub size : length stack ≡ 2 + length two.below

pub two_there : (s : SystemView) (stack : List Word) (two : Two) →
    Each (IsWordOf s) stack → two_of stack ≡ Ok two → TwoThere s stack two
two_there s stack two all h =
    let e = two_are stack two h in
    let all' = subst (Each (IsWordOf s)) e all in
    record { top = all'.0; second = all'.1.0; below = all'.1.1; size = omega (arith, ap length e) }

pub record OperandsThere (s : SystemView) (n : ℕ) (stack : List Word) (o : Operands) : Type 0 where
  pub third : IsWordOf s o.third
  pub second : IsWordOf s o.second
  pub top : IsWordOf s o.top
  pub below : Each (IsWordOf s) o.below
  pub size : length stack ≡ n + length o.below

pub operands_there : (s : SystemView) (n : ℕ) (stack : List Word) (o : Operands) →
    Each (IsWordOf s) stack → operands_of n stack ≡ Ok o → OperandsThere s n stack o
operands_there s zero stack o all h = cc
operands_there s (suc zero) [] o all h = cc
operands_there s (suc zero) (t ∷ below) o all h =
    subst (OperandsThere s 1 (t ∷ below)) (same_Ok h) (record { third = all.0; second = all.0; top = all.0; below = all.1; size = omega arith })
operands_there s (suc (suc zero)) [] o all h = cc
operands_there s (suc (suc zero)) (t ∷ []) o all h = cc
operands_there s (suc (suc zero)) (t ∷ v ∷ below) o all h =
    subst (OperandsThere s 2 (t ∷ v ∷ below)) (same_Ok h) (record { third = all.0; second = all.1.0; top = all.0; below = all.1.1; size = omega arith })
operands_there s (suc (suc (suc zero))) [] o all h = cc
operands_there s (suc (suc (suc zero))) (t ∷ []) o all h = cc
operands_there s (suc (suc (suc zero))) (t ∷ v ∷ []) o all h = cc
operands_there s (suc (suc (suc zero))) (t ∷ v ∷ u ∷ below) o all h =
    subst (OperandsThere s 3 (t ∷ v ∷ u ∷ below)) (same_Ok h)
    (record { third = all.1.1.0; second = all.1.0; top = all.0; below = all.1.1.1; size = omega arith })
operands_there s (suc (suc (suc (suc n)))) stack o all h = cc

-- The newest frame's locals.
locals_there : (s : SystemView) (program : ℕ) (fs : List Frame) → AreFrames s program fs → Each (IsWordOf s) (locals_of fs)
locals_there s program [] fit = tt
locals_there s program (f ∷ fs) fit = fit.1

local_kept : (s : SystemView) (program : ℕ) (fs : List Frame) (offset : ℕ) (w : Word) →
    IsWordOf s w → AreFrames s program fs → AreFrames s program (with_local fs offset w)
local_kept s program [] offset w ok fit = tt
local_kept s program (f ∷ fs) offset w ok fit =
    (length-set f.locals offset w ∙ fit.0, each_set (IsWordOf s) f.locals offset w fit.1 ok, fit.2, fit.3)

local_used : (fs : List Frame) (offset : ℕ) (w : Word) → ctrl_used (with_local fs offset w) ≡ ctrl_used fs
local_used [] offset w = refl
local_used (f ∷ fs) offset w = ap (λ n. ctrl_used fs + (2 + n)) (length-set f.locals offset w)

-- The words of the areas.
area_kept : (s : SystemView) (areas : List (List Word)) (area offset : ℕ) (w : Word) → IsWordOf s w →
    Each (Each (IsWordOf s)) areas → Each (Each (IsWordOf s)) (with_word areas area offset w)
area_kept s areas area offset w ok all =
    each_set (Each (IsWordOf s)) areas area _ all (each_set (IsWordOf s) (get_or areas area []) offset w (each_at (IsWordOf s) areas area all) ok)

pub area_lengths : (areas : List (List Word)) (area offset : ℕ) (w : Word) → map length (with_word areas area offset w) ≡ map length areas
area_lengths areas area offset w =
    map-set_same length areas area (slice_set (get_or areas area []) offset w) [] (length-set (get_or areas area []) offset w)

area_word : (s : SystemView) (areas : List (List Word)) (area offset : ℕ) (w : Word) →
    Each (Each (IsWordOf s)) areas → word_at areas area offset ≡ Some w → IsWordOf s w
area_word s areas area offset w all h = each_get (IsWordOf s) (get_or areas area []) offset w (each_at (IsWordOf s) areas area all) h

-- an element of the stack
element_word : (s : SystemView) (stack : List Word) (position : ℕ) (w : Word) →
    Each (IsWordOf s) stack → element stack position ≡ Some w → IsWordOf s w
element_word s stack position w all h = by_test (nat_lt position (length stack)) h
  where
    by_test : (b : Bool) → (if b then slice_get stack (length stack - 1 - position) else None) ≡ Some w → IsWordOf s w
    by_test true e = each_get (IsWordOf s) stack (length stack - 1 - position) w all e
    by_test false e = cc

module _ (s : SystemView) (p : PitonState) (is : IsState s p) (q : PitonState) where
  -- on to a place with a stack
  place_kept : (place : ℕ) (stack : List Word) → IsPlace s p.program place → Each (IsWordOf s) stack → length stack ≤ s.temp →
      to_place p place stack ≡ Ok q → IsState s q
  place_kept place stack there all fits h =
      subst (IsState s) (same_Ok h) (record {
        place = there;
        frames = is.frames;
        frames_fit = is.frames_fit;
        stack = all;
        stack_fits = fits;
        areas = is.areas;
        lengths = is.lengths;
      })

  room_kept : (place : ℕ) (stack : List Word) → IsPlace s p.program place → Each (IsWordOf s) stack → length stack ≤ 1 + length p.stack →
      with_room s.temp p (to_place p place stack) ≡ Ok q → IsState s q
  room_kept place stack there all fits h =
      let f = held TempFull h in
      let room : length p.stack < s.temp = ltb-true (length p.stack) s.temp f.holds in
      place_kept place stack there all (omega arith) f.goes

  pushed_kept : (w : Word) → IsPlace s p.program (p.place + 1) → IsWordOf s w → pushed s.temp p w ≡ Ok q → IsState s q
  pushed_kept w next ok h = room_kept (p.place + 1) (w ∷ p.stack) next (ok, is.stack) (omega arith) h

  jump_kept : (test : Bool) (place : ℕ) (stack : List Word) → IsPlace s p.program place → IsPlace s p.program (p.place + 1) →
      Each (IsWordOf s) stack → length stack ≤ s.temp → jump_where p test place stack ≡ Ok q → IsState s q
  jump_kept true place stack there next all fits h = place_kept place stack there all fits h
  jump_kept false place stack there next all fits h = place_kept (p.place + 1) stack next all fits h

-- a local of the newest frame set
with_local_kept : (s : SystemView) (p : PitonState) (offset : ℕ) (w : Word) → IsState s p → IsWordOf s w →
    IsState s (record p { frames = with_local p.frames offset w })
with_local_kept s p offset w is ok =
    record {
      place = is.place;
      frames = local_kept s p.program p.frames offset w ok is.frames;
      frames_fit = omega (arith, local_used p.frames offset w, is.frames_fit);
      stack = is.stack;
      stack_fits = is.stack_fits;
      areas = is.areas;
      lengths = is.lengths;
    }

-- a word of an area set
with_word_kept : (s : SystemView) (p : PitonState) (area offset : ℕ) (w : Word) → IsState s p → IsWordOf s w →
    IsState s (record p { areas = with_word p.areas area offset w })
with_word_kept s p area offset w is ok =
    record {
      place = is.place;
      frames = is.frames;
      frames_fit = is.frames_fit;
      stack = is.stack;
      stack_fits = is.stack_fits;
      areas = area_kept s p.areas area offset w ok is.areas;
      lengths = area_lengths p.areas area offset w ∙ is.lengths;
    }

-- a call
call_kept : (s : SystemView) (p : PitonState) (q : PitonState) (program : ℕ) (stack : List Word) → IsWellFormed s → IsState s p →
    IsPlace s p.program (p.place + 1) → Each (IsWordOf s) stack → length stack ≤ s.temp → call s p program stack ≡ Ok q → IsState s q
call_kept s p q program stack sound is next all fits h =
    let f = went_on h in
    let callee = f.value in
    let there : slice_get s.programs program ≡ Some callee = found_is _ Range callee f.is in
    let named : program_of s program ≡ callee = get_or_from_slice_get s.programs program callee _ there in
    let g = held TempEmpty f.goes in
    let k = held CtrlFull g.goes in
    let enough : callee.formals ≤ length stack = leb-true _ _ g.holds in
    let room : ctrl_used p.frames + (2 + (callee.formals + length callee.temporaries)) ≤ s.ctrl = leb-true _ _ k.holds in
    let temporaries : Each (IsWordOf s) callee.temporaries = subst (λ (c : ProgramView). Each (IsWordOf s) c.temporaries) named (sound.temporaries program) in
    let frame = frame_of p callee stack in
    let size : length frame.locals ≡ callee.formals + length callee.temporaries =
    omega (
      arith,
      length-append (reverse (take callee.formals stack)) callee.temporaries,
      length-reverse (take callee.formals stack),
      length-take-le callee.formals stack enough,
    ) in
    subst (IsState s) (same_Ok k.goes) (record {
      place = sound.begins program (slice_get_within s.programs program callee there);
      frames = (
        size ∙ ap (λ (c : ProgramView). c.formals + length c.temporaries) (sym named),
        each_append (IsWordOf s) (reverse (take callee.formals stack)) callee.temporaries
            (each_reverse (IsWordOf s) (take callee.formals stack) (each_take (IsWordOf s) callee.formals stack all)) temporaries,
        next,
        is.frames,
      );
      frames_fit = omega arith;
      stack = each_drop (IsWordOf s) callee.formals stack all;
      stack_fits = omega (arith, length-drop callee.formals stack);
      areas = is.areas;
      lengths = is.lengths;
    })

-- the newest frame dropped
ret_kept : (s : SystemView) (p q : PitonState) (fs : List Frame) → p.frames ≡ fs → IsState s p → ret p fs ≡ Ok q → IsState s q
ret_kept s p q [] e is h = subst (IsState s) (same_Ok h) is
ret_kept s p q (f ∷ []) e is h =
    subst (IsState s) (same_Ok h) (record {
      place = is.place;
      frames = tt;
      frames_fit = omega arith;
      stack = is.stack;
      stack_fits = is.stack_fits;
      areas = is.areas;
      lengths = is.lengths;
    })
ret_kept s p q (f ∷ g ∷ fs) e is h =
    let fit = subst (AreFrames s p.program) e is.frames in
    subst (IsState s) (same_Ok h) (record {
      place = fit.2;
      frames = fit.3;
      frames_fit = omega (arith, is.frames_fit, ap ctrl_used e);
      stack = is.stack;
      stack_fits = is.stack_fits;
      areas = is.areas;
      lengths = is.lengths;
    })

-- an operation on words
apply_kept : (s : SystemView) (p q : PitonState) (o : WordOp) → IsState s p → IsPlace s p.program (p.place + 1) → apply s.temp p o ≡ Ok q → IsState s q
apply_kept s p q o is next h =
    let f = went_on h in
    let there = operands_there s (words_taken o) p.stack f.value is.stack f.is in
    let g = went_on f.goes in
    let row : words.row_of o f.value.third f.value.second f.value.top (map length s.areas) ≡ Ok g.value =
    subst (λ lengths. words.row_of o f.value.third f.value.second f.value.top lengths ≡ Ok g.value) is.lengths (lifted_is _ _ g.is) in
    let gave = results_are s f.value.below there.below g.value o f.value.third f.value.second f.value.top there.third there.second there.top row in
    by_growth (results_on g.value f.value.below) gave.words
    (omega (arith, gave.size, there.size, pushes_one_more o))
    (λ e. omega (arith, gave.size, there.size, pushes_no_more o e))
    (does_grow o) refl g.goes
  where
    by_growth : (stack : List Word) → Each (IsWordOf s) stack → length stack ≤ 1 + length p.stack →
        (does_grow o ≡ false → length stack ≤ length p.stack) → (b : Bool) → does_grow o ≡ b →
        (if b then with_room s.temp p (to_next p stack) else to_next p stack) ≡ Ok q → IsState s q
    by_growth stack all more no_more true e h = room_kept s p is q (p.place + 1) stack next all more h
    by_growth stack all more no_more false e h =
        let fits : length stack ≤ s.temp = omega (arith, no_more e, is.stack_fits) in
        place_kept s p is q (p.place + 1) stack next all fits h

-- each row
pub row_kept : (s : SystemView) (p q : PitonState) (instruction : Instruction) → IsWellFormed s → IsState s p →
    IsInstructionOf s p.program p.place instruction → row_of s p instruction ≡ Ok q → IsState s q
row_kept s p q (i.PushConstant w) sound is fit h = pushed_kept s p is q w fit.1 fit.0 h
row_kept s p q (i.PushLocal offset) sound is fit h =
    let f = went_on h in
    let word = each_get (IsWordOf s) (locals_of p.frames) offset f.value (locals_there s p.program p.frames is.frames) (found_is _ Range f.value f.is) in
    pushed_kept s p is q f.value fit.1 word f.goes
row_kept s p q (i.PopLocal offset) sound is fit h =
    let f = went_on h in
    let one = one_there s p.stack f.value is.stack f.is in
    place_kept s (record p { frames = with_local p.frames offset f.value.top }) (with_local_kept s p offset f.value.top is one.top) q (p.place + 1)
    f.value.below fit.1 one.below (omega (arith, one.size, is.stack_fits)) f.goes
row_kept s p q (i.SetLocal offset) sound is fit h =
    let f = went_on h in
    let one = one_there s p.stack f.value is.stack f.is in
    place_kept s (record p { frames = with_local p.frames offset f.value.top }) (with_local_kept s p offset f.value.top is one.top) q (p.place + 1)
    p.stack fit.1 is.stack is.stack_fits f.goes
row_kept s p q (i.PushGlobal area) sound is fit h =
    let f = went_on h in
    pushed_kept s p is q f.value fit.1 (area_word s p.areas area 0 f.value is.areas (found_is _ Range f.value f.is)) f.goes
row_kept s p q (i.PopGlobal area) sound is fit h =
    let f = went_on h in
    let one = one_there s p.stack f.value is.stack f.is in
    place_kept s (record p { areas = with_word p.areas area 0 f.value.top }) (with_word_kept s p area 0 f.value.top is one.top) q (p.place + 1)
    f.value.below fit.1 one.below (omega (arith, one.size, is.stack_fits)) f.goes
row_kept s p q (i.SetGlobal area) sound is fit h =
    let f = went_on h in
    let one = one_there s p.stack f.value is.stack f.is in
    place_kept s (record p { areas = with_word p.areas area 0 f.value.top }) (with_word_kept s p area 0 f.value.top is one.top) q (p.place + 1) p.stack
    fit.1 is.stack is.stack_fits f.goes
row_kept s p q (i.PushTempStkIndex n) sound is fit h =
    let f = held Range h in
    pushed_kept s p is q (Nat (length p.stack - 1 - n)) fit (omega (arith, is.stack_fits, sound.temp)) f.goes
row_kept s p q i.PushTempStkFreeSize sound is fit h =
    pushed_kept s p is q (Nat (s.temp - length p.stack)) fit (omega (arith, sound.temp)) h
row_kept s p q i.PushCtrlStkFreeSize sound is fit h =
    pushed_kept s p is q (Nat (s.ctrl - ctrl_used p.frames)) fit (omega (arith, sound.ctrl)) h
row_kept s p q i.FetchTempStk sound is fit h =
    let f = went_on h in
    let one = one_there s p.stack f.value is.stack f.is in
    let g = went_on f.goes in
    let k = went_on g.goes in
    let word = element_word s f.value.below g.value k.value one.below (found_is _ Range k.value k.is) in
    place_kept s p is q (p.place + 1) (k.value ∷ f.value.below) fit (word, one.below) (omega (arith, one.size, is.stack_fits)) k.goes
row_kept s p q i.DepositTempStk sound is fit h =
    let f = went_on h in
    let two = two_there s p.stack f.value is.stack f.is in
    let g = went_on f.goes in
    let k = held Range g.goes in
    place_kept s p is q (p.place + 1) (with_element f.value.below g.value f.value.second) fit
    (each_set (IsWordOf s) f.value.below _ f.value.second two.below two.second)
    (omega (arith, two.size, is.stack_fits, length-set f.value.below (length f.value.below - 1 - g.value) f.value.second)) k.goes
row_kept s p q i.Fetch sound is fit h =
    let f = went_on h in
    let one = one_there s p.stack f.value is.stack f.is in
    let g = went_on f.goes in
    let k = went_on g.goes in
    let word = area_word s p.areas g.value.0 g.value.1 k.value is.areas (found_is _ Range k.value k.is) in
    place_kept s p is q (p.place + 1) (k.value ∷ f.value.below) fit (word, one.below) (omega (arith, one.size, is.stack_fits)) k.goes
row_kept s p q i.Deposit sound is fit h =
    let f = went_on h in
    let two = two_there s p.stack f.value is.stack f.is in
    let g = went_on f.goes in
    place_kept s (record p { areas = with_word p.areas g.value.0 g.value.1 f.value.second })
    (with_word_kept s p g.value.0 g.value.1 f.value.second is two.second) q (p.place + 1) f.value.below fit two.below
    (omega (arith, two.size, is.stack_fits)) g.goes
row_kept s p q i.Pop sound is fit h =
    let f = went_on h in
    let one = one_there s p.stack f.value is.stack f.is in
    place_kept s p is q (p.place + 1) f.value.below fit one.below (omega (arith, one.size, is.stack_fits)) f.goes
row_kept s p q (i.PopStar n) sound is fit h =
    let f = held TempEmpty h in
    place_kept s p is q (p.place + 1) (drop n p.stack) fit (each_drop (IsWordOf s) n p.stack is.stack)
    (omega (arith, is.stack_fits, length-drop n p.stack)) f.goes
row_kept s p q i.Popn sound is fit h =
    let f = went_on h in
    let one = one_there s p.stack f.value is.stack f.is in
    let g = went_on f.goes in
    let k = held Range g.goes in
    place_kept s p is q (p.place + 1) (drop g.value f.value.below) fit (each_drop (IsWordOf s) g.value f.value.below one.below)
    (omega (arith, one.size, is.stack_fits, length-drop g.value f.value.below)) k.goes
row_kept s p q i.NoOp sound is fit h = place_kept s p is q (p.place + 1) p.stack fit is.stack is.stack_fits h
row_kept s p q (i.Jump place) sound is fit h = place_kept s p is q place p.stack fit is.stack is.stack_fits h
row_kept s p q (i.JumpIfTempStkFull place) sound is fit h =
    jump_kept s p is q (length p.stack == s.temp) place p.stack fit.0 fit.1 is.stack is.stack_fits h
row_kept s p q (i.JumpIfTempStkEmpty place) sound is fit h =
    jump_kept s p is q (length p.stack == 0) place p.stack fit.0 fit.1 is.stack is.stack_fits h
row_kept s p q (i.JumpCase places) sound is fit h =
    let f = went_on h in
    let one = one_there s p.stack f.value is.stack f.is in
    let g = went_on f.goes in
    let k = went_on g.goes in
    place_kept s p is q k.value f.value.below (each_get (IsPlace s p.program) places g.value k.value fit.1 (found_is _ Range k.value k.is)) one.below
    (omega (arith, one.size, is.stack_fits)) k.goes
row_kept s p q (i.Pushj place) sound is fit h =
    room_kept s p is q place (Pc p.program (p.place + 1) ∷ p.stack) fit.0 (fit.1, is.stack) (omega arith) h
row_kept s p q i.Popj sound is fit h =
    let f = went_on h in
    let one = one_there s p.stack f.value is.stack f.is in
    let g = went_on f.goes in
    let k = held Range g.goes in
    let pc : IsPlace s g.value.0 g.value.1 = subst (IsWordOf s) (pc_is f.value.top g.value g.is) one.top in
    let here : IsPlace s p.program g.value.1 = subst (λ program. IsPlace s program g.value.1) (eqb-true g.value.0 p.program k.holds) pc in
    place_kept s p is q g.value.1 f.value.below here one.below (omega (arith, one.size, is.stack_fits)) k.goes
row_kept s p q (i.TestAndJump family kind place) sound is fit h =
    let f = went_on h in
    let one = one_there s p.stack f.value is.stack f.is in
    let g = went_on f.goes in
    jump_kept s p is q g.value place f.value.below fit.0 fit.1 one.below (omega (arith, one.size, is.stack_fits)) g.goes
row_kept s p q (i.Call program) sound is fit h = call_kept s p q program p.stack sound is fit.1 is.stack is.stack_fits h
row_kept s p q i.PopCall sound is fit h =
    let f = went_on h in
    let one = one_there s p.stack f.value is.stack f.is in
    let g = went_on f.goes in
    call_kept s p q g.value f.value.below sound is fit one.below (omega (arith, one.size, is.stack_fits)) g.goes
row_kept s p q i.Ret sound is fit h = ret_kept s p q p.frames refl is h
row_kept s p q (i.Apply o) sound is fit h = apply_kept s p q o is fit h

step_from_kept : (s : SystemView) (p q : PitonState) (fs : List Frame) → IsWellFormed s → IsState s p → step_from s p fs ≡ Ok q → IsState s q
step_from_kept s p q [] sound is h = subst (IsState s) (same_Ok h) is
step_from_kept s p q (f ∷ fs) sound is h =
    let g = went_on h in
    row_kept s p q g.value sound is (sound.instructions p.program p.place g.value (found_is _ Range g.value g.is)) g.goes

-- each step
pub step_kept : (s : SystemView) (p q : PitonState) → IsWellFormed s → IsState s p → piton_step s p ≡ Ok q → IsState s q
step_kept s p q sound is h = step_from_kept s p q p.frames sound is h
