-- Each instruction's code does its step.
use Rattle.std.proofs.Common.{◌≡◌, ℕ, ◌+◌, ◌-◌, ◌<◌, ◌≤◌, ◌==◌, Bool, true, false, Some, Ok, List, [], ◌∷◌, ◌++◌, length, refl, sym, ap, ◌∙◌, subst, arith}
use Rattle.std.{proofs.Common.{length-append, append_assoc}, specs.Prelude.{nat_lt, nat_le, if◌then◌else◌, map, take, drop, reverse, slice_get, slice_set}}
use Rattle.std.{specs.Prelude.{None, slice_index_or}, proofs.lemmas.Bool.Decides.nat_tests, proofs.lemmas.List.{length-map, length-set, map-append}}
use Rattle.std.{proofs.lemmas.List.{take-append-drop, length-take-le}, proofs.lemmas.Option.get_or_from_slice_get, proofs.lemmas.Bool.ltb-true}
use Rattle.fm_machine.specs.State.{Fm}
use Rattle.fm_code.{specs.Execution.{Parts, CodeAt, Arrives, View, view, Executes}, specs.Areas.{joined, words_before}, specs.InstructionWords.{push, literal}}
use Rattle.fm_code.{specs.InstructionWords.mov, specs.CodeRows.{HasRoom, IsFrame, IsIn, framed}, specs.Templates.{prelude_code, pop_star_code, popn_code}}
use Rattle.fm_code.{specs.Templates.{call_code, pop_call_code, ret_code, test_and_jump_code}, proofs.RowLaws.{move_rows, jump_rows, length-framed}}
use Rattle.fm_code.proofs.ListLaws.{get_front, set_front, get_map, set_map, reverse_map, joined_get, joined_set, joined_below}
use Rattle.piton_words.{specs.declared.word.Word.Word, specs.declared.word.Word.TheVariants.{Nat, Addr, Pc, Subr}, specs.declared.op.WordOp.WordOp}
use Rattle.piton_words.{specs.declared.outcome.Outcome.Outcome, specs.declared.outcome.Outcome.TheVariants.{One, Two}}
use Rattle.piton_words.specs.declared.op.WordOp.TheVariants as op
use Rattle.piton_words.specs.OperationRows as words
use Rattle.piton_semantics.{specs.declared.error_kind.ErrorKind.TheVariants.{TempEmpty, Range, TempFull, CtrlFull}, specs.State.{Frame, PitonState, ctrl_used}}
use Rattle.piton_semantics.{specs.State.{variables_of, word_at, element}, specs.Views.{◌>>=◌, then_on, Operands, operands_of, words_taken, lifted}}
use Rattle.piton_semantics.{specs.InstructionRows.{Row, row_of, does_grow}, specs.Step.{cost_of, variables_on_top, operation_cost}, specs.Addresses.Addresses}
use Rattle.piton_semantics.{specs.Addresses.{parts_with, word_number, numbers}, specs.Templates.{operation_code, condition_of, template}}
use Rattle.piton_semantics.{specs.Stands.{return_address, pointer_to, frame_words, view_of, StandsAt, SimulatesAt}, proofs.OperationForms.{IsWordBy, TellApart}}
use Rattle.piton_semantics.{proofs.OperationForms.{taken, left, HasRoomFor}, proofs.OperationLaws.each_operation, proofs.PieceLaws.{word_is, codes_are}}
use Rattle.piton_semantics.{proofs.PieceLaws.jump_case_is, proofs.ReadyForms.{is_test, IsReady, Asks}, proofs.StepViewLaws.{refused, by_one, by_two, by_nat}}
use Rattle.piton_semantics.proofs.StepViewLaws.{by_addr, by_pc, by_subr, by_found, by_lifted, by_true, by_ok, by_test, by_area, area_there, area_length}
use Rattle.piton_syntax.{specs.declared.test_kind.TestFamily.TestFamily, specs.declared.test_kind.TestKind.TestKind}
use Rattle.piton_check.specs.Instruction as i
use Rattle.piton_check.specs.Instruction.{Instruction, ProgramView, SystemView}
use Rattle.piton_semantics.specs.InstructionRows as row

abbrev pub state_with : ℕ → ℕ → Frame → List Frame → List (List Word) → List Word → PitonState
state_with pr pl f fs areas ws = record { program = pr; place = pl; frames = f ∷ fs; stack = ws; areas = areas }

most_true : (a b : ℕ) → nat_le a b ≡ true → a ≤ b
most_true a b h = grind (arith, nat_tests)

-- an element of a stack, counted from the bottom
by_element : (ws : List Word) (n : ℕ) (w : Word) → element ws n ≡ Some w → (n < length ws) × (slice_get ws (length ws - 1 - n) ≡ Some w)
by_element ws n w h = by_order (nat_lt n (length ws)) refl h
  where
    by_order : (b : Bool) → nat_lt n (length ws) ≡ b → (if b then slice_get ws (length ws - 1 - n) else None) ≡ Some w → (n < length ws)
        × (slice_get ws (length ws - 1 - n) ≡ Some w)
    by_order true e g = (ltb-true n (length ws) e, g)
    by_order false e g = absurd cc

-- room for what an operation leaves
room_for : (P : Parts) (S : SystemView) (o : WordOp) (temp : List ℕ) (m : ℕ) → P.temp_at + S.temp ≡ P.end → (does_grow o ≡ true → m ≡ 1 + length temp)
    → (does_grow o ≡ true → m < S.temp) → HasRoomFor o P temp
room_for P S op.Eq temp m e q r = tt
room_for P S op.AddInt temp m e q r = tt
room_for P S op.AddNat temp m e q r = tt
room_for P S op.SubInt temp m e q r = tt
room_for P S op.SubNat temp m e q r = tt
room_for P S op.AddAddr temp m e q r = tt
room_for P S op.SubAddr temp m e q r = tt
room_for P S op.LtInt temp m e q r = tt
room_for P S op.LtNat temp m e q r = tt
room_for P S op.LtAddr temp m e q r = tt
room_for P S op.Add1Int temp m e q r = tt
room_for P S op.Add1Nat temp m e q r = tt
room_for P S op.Sub1Int temp m e q r = tt
room_for P S op.Sub1Nat temp m e q r = tt
room_for P S op.NegInt temp m e q r = tt
room_for P S op.IntToNat temp m e q r = tt
room_for P S op.Mult2Nat temp m e q r = tt
room_for P S op.AddIntWithCarry temp m e q r = tt
room_for P S op.AddNatWithCarry temp m e q r = tt
room_for P S op.SubIntWithCarry temp m e q r = tt
room_for P S op.SubNatWithCarry temp m e q r = tt
room_for P S op.Mult2NatWithCarryOut temp m e q r = let a = q refl in let b = r refl in omega arith
room_for P S op.Div2Nat temp m e q r = let a = q refl in let b = r refl in omega arith
room_for P S op.OrBitv temp m e q r = tt
room_for P S op.AndBitv temp m e q r = tt
room_for P S op.XorBitv temp m e q r = tt
room_for P S op.OrBool temp m e q r = tt
room_for P S op.AndBool temp m e q r = tt
room_for P S op.NotBitv temp m e q r = tt
room_for P S op.RshBitv temp m e q r = tt
room_for P S op.LshBitv temp m e q r = tt
room_for P S op.NotBool temp m e q r = tt

-- what an operation leaves, as numbers
left_is : (A : Addresses) (out : Outcome) (rest : List Word) → left A out (numbers A rest) ≡ numbers A (row.results_on out rest)
left_is A (One w) rest = refl
left_is A (Two a b) rest = refl

-- the row of an operation, once its words are found
abbrev continuation : SystemView → PitonState → WordOp → Operands → Row
continuation S p o x =
    lifted (words.row_of o x.third x.second x.top (map length p.areas)) >>= λ outcome.
    (let next = row.to_next p (row.results_on outcome x.below) in if does_grow o then row.with_room S.temp p next else next)

by_grow : (b : Bool) (temp : ℕ) (q : PitonState) (next : Row) (p : PitonState) (Q : Type 0) → (if b then row.with_room temp q next else next) ≡ Ok p
    → ((b ≡ true → length q.stack < temp) → next ≡ Ok p → Q) → Q
by_grow true temp q next p Q h k = by_true (nat_lt (length q.stack) temp) TempFull next p Q h (λ r g. k (λ e. ltb-true _ _ r) g)
by_grow false temp q next p Q h k = k (λ e. absurd cc) h

-- the words of frames are as many as they use
length-frames : (A : Addresses) (fs : List Frame) → length (frame_words A fs) ≡ ctrl_used fs
length-frames A [] = refl
length-frames A (f ∷ fs) =
    let older = pointer_to A fs (frame_words A fs) ∷ return_address A f fs ∷ frame_words A fs in
    let a = length-append (numbers A f.locals) older in
    let b = length-map f.locals (word_number A) in
    let c = length-frames A fs in
    omega arith

module _ (A : Addresses) (code : List ℕ) (S : SystemView) (pr pl : ℕ) (f : Frame) (fs : List Frame) (areas : List (List Word))
    (ready : IsReady A code S areas) (s : Fm) where
  -- what is view with a stack
  At : List Word → Type 0
  At ws = StandsAt A code s (state_with pr pl f fs areas ws)

  Here : List ℕ → Type 0
  Here words = CodeAt (parts_with A code) (A.place_at pr pl) words

  -- the next place's code stands so many words on
  Next : ℕ → Type 0
  Next k = A.place_at pr (pl + 1) ≡ A.place_at pr pl + k

  run : {n : ℕ} {words : List ℕ} {u : View} (ws : List Word) (q : PitonState) → Executes (parts_with A code) words n
      (view_of A (state_with pr pl f fs areas ws)) u → At ws → Here words → u ≡ view_of A q → SimulatesAt A code n s q
  unfolding At Here
  run {n} ws q d h here e = record { comes = subst (Arrives (parts_with A code) n s) e (d.leads s ready.is h.is here) }

  room : (ws : List Word) → nat_lt (length ws) S.temp ≡ true → HasRoom (parts_with A code) (numbers A ws)
  room ws r =
      let a = length-map ws (word_number A) in
      let b = ltb-true _ _ r in
      let c = ready.temp_is in
      omega arith

  is_frame : (ws : List Word) → At ws → (let t = view_of A (state_with pr pl f fs areas ws) in IsFrame (parts_with A code) t.frame t.ctrl)
  unfolding At
  is_frame ws h = let laid = h.is.laid in omega arith

  -- a word pushed
  pushed_row : (n k : ℕ) (words : List ℕ) (ws : List Word) (w : Word) (p : PitonState) → At ws → Here words → Next k
      → row.pushed S.temp (state_with pr pl f fs areas ws) w ≡ Ok p
      → (let t = view_of A (state_with pr pl f fs areas ws) in HasRoom (parts_with A code) t.temp
      → Executes (parts_with A code) words n t (view t.frame (t.pc + k) t.ctrl (word_number A w ∷ t.temp) t.areas)) → SimulatesAt A code n s p
  unfolding Next
  pushed_row n k words ws w p h here after e d =
      let t = view_of A (state_with pr pl f fs areas ws) in
      by_true (nat_lt (length ws) S.temp) TempFull _ p _ e (λ r g.
      by_ok _ p (SimulatesAt A code n s) g (run ws _ (d (room ws r)) h here (λ i. view t.frame (sym after i) t.ctrl (word_number A w ∷ t.temp) t.areas)))

  -- on at the next place, with another stack
  next_row : (n k : ℕ) (words : List ℕ) (ws rest : List Word) (p : PitonState) → At ws → Here words → Next k
      → row.to_next (state_with pr pl f fs areas ws) rest ≡ Ok p
      → (let t = view_of A (state_with pr pl f fs areas ws) in Executes (parts_with A code) words n t
      (view t.frame (t.pc + k) t.ctrl (numbers A rest) t.areas)) → SimulatesAt A code n s p
  unfolding Next
  next_row n k words ws rest p h here after e d =
      let t = view_of A (state_with pr pl f fs areas ws) in
      by_ok _ p (SimulatesAt A code n s) e (run ws _ d h here (λ i. view t.frame (sym after i) t.ctrl (numbers A rest) t.areas))

  -- on at another place
  goto_row : (n place : ℕ) (words : List ℕ) (ws rest : List Word) (p : PitonState) → At ws → Here words
      → row.to_place (state_with pr pl f fs areas ws) place rest ≡ Ok p
      → (let t = view_of A (state_with pr pl f fs areas ws) in Executes (parts_with A code) words n t
      (view t.frame (A.place_at pr place) t.ctrl (numbers A rest) t.areas)) → SimulatesAt A code n s p
  goto_row n place words ws rest p h here e d = by_ok _ p (SimulatesAt A code n s) e (run ws _ d h here refl)

  -- a local set
  local_row : (k : ℕ) (v : Word) (words : List ℕ) (ws rest : List Word) (p : PitonState) → k < length f.locals → At ws → Here words → Next 4
      → row.set_local (state_with pr pl f fs areas ws) k v rest ≡ Ok p
      → (let t = view_of A (state_with pr pl f fs areas ws) in k < length t.ctrl
      → Executes (parts_with A code) words 3 t (view t.frame (t.pc + 4) (slice_set t.ctrl k (word_number A v)) (numbers A rest) t.areas))
      → SimulatesAt A code 3 s p
  unfolding Next
  local_row k v words ws rest p below h here after e d =
      let t = view_of A (state_with pr pl f fs areas ws) in
      let older = pointer_to A fs (frame_words A fs) ∷ return_address A f fs ∷ frame_words A fs in
      let us = numbers A f.locals in
      let same : length us ≡ length f.locals = length-map f.locals (word_number A) in
      let many = length-append us older in
      let set : slice_set t.ctrl k (word_number A v) ≡ numbers A (slice_set f.locals k v) ++ older =
      set_front us older k (word_number A v) (omega arith) ∙ ap (λ zs. zs ++ older) (set_map (word_number A) f.locals k v) in
      let at : t.frame ≡ A.temp_at - length (numbers A (slice_set f.locals k v) ++ older) =
      ap (λ n. A.temp_at - n) (sym (length-set t.ctrl k (word_number A v)) ∙ ap length set) in
      by_ok _ p (SimulatesAt A code 3 s) e (run ws _ (d (omega arith)) h here (λ i. view (at i) (sym after i) (set i) (numbers A rest) t.areas))

  -- a word of an area set
  word_row : (n j a o : ℕ) (v : Word) (words : List ℕ) (ws rest : List Word) (p : PitonState) → o < length (slice_index_or areas a []) → At ws
      → Here words → Next j → row.set_word (state_with pr pl f fs areas ws) a o v rest ≡ Ok p
      → (let t = view_of A (state_with pr pl f fs areas ws) in (k : ℕ) → IsIn (parts_with A code) (A.area_at a + o) k → k < length t.areas
      → Executes (parts_with A code) words n t (view t.frame (t.pc + j) t.ctrl (numbers A rest) (slice_set t.areas k (word_number A v))))
      → SimulatesAt A code n s p
  unfolding Next
  word_row n j a o v words ws rest p below h here after e d =
      let t = view_of A (state_with pr pl f fs areas ws) in
      let xss = map (numbers A) areas in
      let xs = slice_index_or areas a [] in
      let same : length (numbers A xs) ≡ length xs = length-map xs (word_number A) in
      let some = get_map (numbers A) areas a xs (area_there areas a o below) in
      let place = ready.area_is a in
      let set : slice_set t.areas (words_before xss a + o) (word_number A v) ≡ joined (map (numbers A) (slice_set areas a (slice_set xs o v))) =
      joined_set xss a o (word_number A v) (numbers A xs) some (omega arith) ∙ ap (λ us. joined (slice_set xss a us)) (set_map (word_number A) xs o v)
      ∙ ap joined (set_map (numbers A) areas a (slice_set xs o v)) in
      by_ok _ p (SimulatesAt A code n s) e (run ws _ (d (words_before xss a + o) (omega arith) (joined_below xss a o (numbers A xs) some (omega arith)))
      h here (λ i. view t.frame (sym after i) t.ctrl (numbers A rest) (set i)))

  -- a word of an area
  word_there : (a o : ℕ) (xs : List Word) (w : Word) → slice_get areas a ≡ Some xs → slice_get xs o ≡ Some w
      → slice_get (joined (map (numbers A) areas)) (words_before (map (numbers A) areas) a + o) ≡ Some (word_number A w)
  word_there a o xs w h g =
      joined_get (map (numbers A) areas) a o (word_number A w) (numbers A xs) (get_map (numbers A) areas a xs h) (get_map (word_number A) xs o w g)

  word_place : (a o : ℕ) → IsIn (parts_with A code) (A.area_at a + o) (words_before (map (numbers A) areas) a + o)
  word_place a o = let e = ready.area_is a in omega arith

  -- the rows of the instructions, in the order of the tables
  Row' : ℕ → Instruction → List Word → PitonState → Type 0
  Row' k i ws p = At ws → Here (template A pr pl (length f.locals) i) → Next k → row_of S (state_with pr pl f fs areas ws) i ≡ Ok p
      → SimulatesAt A code (cost_of S (state_with pr pl f fs areas ws) i) s p

  push_constant : (w : Word) (ws : List Word) (p : PitonState) → Row' 2 (i.PushConstant w) ws p
  unfolding Row'
  push_constant w ws p h here after e =
      let words = subst (λ n. Here (mov (push 2) literal ∷ n ∷ [])) (word_is A (A.place_at pr pl + 1) w) here in
      pushed_row 1 2 _ ws w p h words after e (λ r. (move_rows (parts_with A code) _ _ _ _ _).push_constant (word_number A w) r)

  push_local : (k : ℕ) (ws : List Word) (p : PitonState) → Row' 4 (i.PushLocal k) ws p
  unfolding Row'
  push_local k ws p h here after e =
      by_found (slice_get f.locals k) Range _ p _ e (λ w there g.
      let older = pointer_to A fs (frame_words A fs) ∷ return_address A f fs ∷ frame_words A fs in
      let some = get_front (numbers A f.locals) older k (word_number A w) (get_map (word_number A) f.locals k w there) in
      pushed_row 3 4 _ ws w p h here after g (λ r. (move_rows (parts_with A code) _ _ _ _ _).push_local k (word_number A w) some (is_frame ws h) r))

  pop_local : (k : ℕ) (ws : List Word) (p : PitonState) → k < length f.locals → Row' 4 (i.PopLocal k) ws p
  unfolding Row'
  pop_local k ws p fits h here after e =
      by_one ws _ p (λ us. At us → SimulatesAt A code 3 s p) e (λ v rest g h2.
      local_row k v _ (v ∷ rest) rest p fits h2 here after g
      (λ b. (move_rows (parts_with A code) _ _ _ (numbers A rest) _).pop_local k (word_number A v) b (is_frame (v ∷ rest) h2))) h

  set_local : (k : ℕ) (ws : List Word) (p : PitonState) → k < length f.locals → Row' 4 (i.SetLocal k) ws p
  unfolding Row' then_on
  set_local k [] p fits h here after e = refused TempEmpty p e
  set_local k (v ∷ rest) p fits h here after e =
      local_row k v _ (v ∷ rest) (v ∷ rest) p fits h here after e
      (λ b. (move_rows (parts_with A code) _ _ _ (numbers A rest) _).set_local k (word_number A v) b (is_frame (v ∷ rest) h))

  push_global : (a : ℕ) (ws : List Word) (p : PitonState) → Row' 3 (i.PushGlobal a) ws p
  unfolding Row'
  push_global a ws p h here after e =
      by_found (word_at areas a 0) Range _ p _ e (λ w there g.
      let fa = by_area areas a 0 w there in
      pushed_row 2 3 _ ws w p h here after g (λ r. (move_rows (parts_with A code) _ _ _ _ _).push_global (A.area_at a + 0) _ (word_number A w)
      (word_place a 0) (word_there a 0 fa.area w fa.some fa.there) r))

  pop_global : (a : ℕ) (ws : List Word) (p : PitonState) → 0 < length (slice_index_or areas a []) → Row' 3 (i.PopGlobal a) ws p
  unfolding Row'
  pop_global a ws p fits h here after e =
      by_one ws _ p (λ us. At us → SimulatesAt A code 2 s p) e (λ v rest g h2.
      word_row 2 3 a 0 v _ (v ∷ rest) rest p fits h2 here after g
      (λ k i b. (move_rows (parts_with A code) _ _ _ (numbers A rest) _).pop_global (A.area_at a + 0) k (word_number A v) i b)) h

  set_global : (a : ℕ) (ws : List Word) (p : PitonState) → 0 < length (slice_index_or areas a []) → Row' 3 (i.SetGlobal a) ws p
  unfolding Row' then_on
  set_global a [] p fits h here after e = refused TempEmpty p e
  set_global a (v ∷ rest) p fits h here after e =
      word_row 2 3 a 0 v _ (v ∷ rest) (v ∷ rest) p fits h here after e
      (λ k i b. (move_rows (parts_with A code) _ _ _ (numbers A rest) _).set_global (A.area_at a + 0) k (word_number A v) i b)

  push_temp_stk_index : (n : ℕ) (ws : List Word) (p : PitonState) → Row' 4 (i.PushTempStkIndex n) ws p
  unfolding Row'
  push_temp_stk_index n ws p h here after e =
      let same : length (numbers A ws) ≡ length ws = length-map ws (word_number A) in
      by_true (nat_lt n (length ws)) Range _ p _ e (λ b g.
      let below = ltb-true _ _ b in
      pushed_row 3 4 _ ws (Nat (length ws - 1 - n)) p h here after g (λ r.
      let t = view_of A (state_with pr pl f fs areas ws) in
      subst (λ m. Executes (parts_with A code) (template A pr pl (length f.locals) (i.PushTempStkIndex n)) 3 t
      (view t.frame (t.pc + 4) t.ctrl ((m - 1 - n) ∷ t.temp) t.areas)) same
      ((move_rows (parts_with A code) _ _ _ _ _).push_temp_stk_index n (omega arith) r)))

  push_temp_stk_free_size : (ws : List Word) (p : PitonState) → Row' 4 i.PushTempStkFreeSize ws p
  unfolding Row'
  push_temp_stk_free_size ws p h here after e =
      let same : length (numbers A ws) ≡ length ws = length-map ws (word_number A) in
      let c = ready.temp_is in
      pushed_row 3 4 _ ws (Nat (S.temp - length ws)) p h here after e (λ r.
      let t = view_of A (state_with pr pl f fs areas ws) in
      let v : A.end - A.temp_at - length (numbers A ws) ≡ S.temp - length ws = omega arith in
      subst (λ m. Executes (parts_with A code) (template A pr pl (length f.locals) i.PushTempStkFreeSize) 3 t
      (view t.frame (t.pc + 4) t.ctrl (m ∷ t.temp) t.areas)) v ((move_rows (parts_with A code) _ _ _ _ _).push_temp_stk_free_size r))

  push_ctrl_stk_free_size : (ws : List Word) (p : PitonState) → Row' 4 i.PushCtrlStkFreeSize ws p
  unfolding Row'
  push_ctrl_stk_free_size ws p h here after e =
      let many = length-frames A (f ∷ fs) in
      let c = ready.ctrl_is in
      pushed_row 3 4 _ ws (Nat (S.ctrl - ctrl_used (f ∷ fs))) p h here after e (λ r.
      let t = view_of A (state_with pr pl f fs areas ws) in
      let v : A.temp_at - A.ctrl_at - length (frame_words A (f ∷ fs)) ≡ S.ctrl - ctrl_used (f ∷ fs) = omega arith in
      subst (λ m. Executes (parts_with A code) (template A pr pl (length f.locals) i.PushCtrlStkFreeSize) 3 t
      (view t.frame (t.pc + 4) t.ctrl (m ∷ t.temp) t.areas)) v ((move_rows (parts_with A code) _ _ _ _ _).push_ctrl_stk_free_size r))

  fetch_temp_stk : (ws : List Word) (p : PitonState) → Row' 4 i.FetchTempStk ws p
  unfolding Row'
  fetch_temp_stk ws p h here after e =
      by_one ws _ p (λ us. At us → SimulatesAt A code 3 s p) e (λ t rest g.
      by_nat t _ p (λ u. At (u ∷ rest) → SimulatesAt A code 3 s p) g (λ n g2 h2.
      by_found (element rest n) Range _ p _ g2 (λ w there g4.
      let el = by_element rest n w there in
      let same : length (numbers A rest) ≡ length rest = length-map rest (word_number A) in
      let below : n < length rest = el.0 in
      let some = subst (λ m. slice_get (numbers A rest) (m - 1 - n) ≡ Some (word_number A w)) (sym same)
      (get_map (word_number A) rest (length rest - 1 - n) w el.1) in
      next_row 3 4 _ (Nat n ∷ rest) (w ∷ rest) p h2 here after g4
      ((move_rows (parts_with A code) _ _ _ (numbers A rest) _).fetch_temp_stk n (word_number A w) (omega arith) some)))) h

  deposit_temp_stk : (ws : List Word) (p : PitonState) → Row' 4 i.DepositTempStk ws p
  unfolding Row'
  deposit_temp_stk ws p h here after e =
      by_two ws _ p (λ us. At us → SimulatesAt A code 3 s p) e (λ t v rest g1.
      by_nat t _ p (λ u. At (u ∷ v ∷ rest) → SimulatesAt A code 3 s p) g1 (λ n g2 h2.
      by_true (nat_lt n (length rest)) Range _ p _ g2 (λ b g3.
      let same : length (numbers A rest) ≡ length rest = length-map rest (word_number A) in
      let below = ltb-true _ _ b in
      let t0 = view_of A (state_with pr pl f fs areas (Nat n ∷ v ∷ rest)) in
      let set : slice_set (numbers A rest) (length (numbers A rest) - 1 - n) (word_number A v) ≡ numbers A (slice_set rest (length rest - 1 - n) v) =
      ap (λ m. slice_set (numbers A rest) (m - 1 - n) (word_number A v)) same ∙ set_map (word_number A) rest (length rest - 1 - n) v in
      let d = subst (λ us. Executes (parts_with A code) (template A pr pl (length f.locals) i.DepositTempStk) 3 t0
      (view t0.frame (t0.pc + 4) t0.ctrl us t0.areas)) set
      ((move_rows (parts_with A code) _ _ _ (numbers A rest) _).deposit_temp_stk n (word_number A v) (omega arith)) in
      next_row 3 4 _ (Nat n ∷ v ∷ rest) (slice_set rest (length rest - 1 - n) v) p h2 here after g3 d))) h

  fetch : (ws : List Word) (p : PitonState) → Row' 2 i.Fetch ws p
  unfolding Row'
  fetch ws p h here after e =
      by_one ws _ p (λ us. At us → SimulatesAt A code 2 s p) e (λ t rest g.
      by_addr t _ p (λ u. At (u ∷ rest) → SimulatesAt A code 2 s p) g (λ a o g2 h2.
      by_found (word_at areas a o) Range _ p _ g2 (λ w there g4.
      let fa = by_area areas a o w there in
      next_row 2 2 _ (Addr a o ∷ rest) (w ∷ rest) p h2 here after g4
      ((move_rows (parts_with A code) _ _ _ (numbers A rest) _).fetch (A.area_at a + o) _ (word_number A w) (word_place a o)
      (word_there a o fa.area w fa.some fa.there))))) h

  deposit : (I : ℕ → ℕ → Type 0) (J : ℕ → Type 0) (ws : List Word) (p : PitonState)
      → ((t : Word) (rest : List Word) → ws ≡ t ∷ rest → IsWordBy (map (λ xs. length xs) areas) I J t) → Row' 2 i.Deposit ws p
  unfolding Row'
  deposit I J ws p fits h here after e =
      by_two ws _ p (λ us. ((t : Word) (rest : List Word) → us ≡ t ∷ rest → IsWordBy (map (λ xs. length xs) areas) I J t) → At us
      → SimulatesAt A code 2 s p) e (λ t v rest g1 fits1 h1.
      by_addr t _ p (λ u. IsWordBy (map (λ xs. length xs) areas) I J u → At (u ∷ v ∷ rest) → SimulatesAt A code 2 s p) g1 (λ a o g2 q h2.
      let len = area_length areas a in
      word_row 2 2 a o v _ (Addr a o ∷ v ∷ rest) rest p (omega arith) h2 here after g2
      (λ k i b. (move_rows (parts_with A code) _ _ _ (numbers A rest) _).deposit (A.area_at a + o) k (word_number A v) i b)) (fits1 t (v ∷ rest) refl)
      h1) fits h

  pop : (ws : List Word) (p : PitonState) → Row' 1 i.Pop ws p
  unfolding Row'
  pop ws p h here after e =
      by_one ws _ p (λ us. At us → SimulatesAt A code 1 s p) e (λ t rest g h2.
      next_row 1 1 _ (t ∷ rest) rest p h2 here after g ((move_rows (parts_with A code) _ _ _ (numbers A rest) _).pop (word_number A t))) h

  no_op : (ws : List Word) (p : PitonState) → Row' 1 i.NoOp ws p
  unfolding Row'
  no_op ws p h here after e = next_row 1 1 _ ws ws p h here after e (move_rows (parts_with A code) _ _ _ _ _).no_op

  -- a stack parted
  parted : (n : ℕ) (ws : List Word) → numbers A ws ≡ numbers A (take n ws) ++ numbers A (drop n ws)
  parted n ws = ap (numbers A) (sym (take-append-drop n ws)) ∙ map-append (word_number A) (take n ws) (drop n ws)

  many_taken : (n : ℕ) (ws : List Word) → n ≤ length ws → length (numbers A (take n ws)) ≡ n
  many_taken n ws h = length-map (take n ws) (word_number A) ∙ length-take-le n ws h

  pop_star : (n : ℕ) (ws : List Word) (p : PitonState) → Row' 2 (i.PopStar n) ws p
  unfolding Row'
  pop_star n ws p h here after e =
      by_true (nat_le n (length ws)) TempEmpty _ p _ e (λ b g.
      let t = view_of A (state_with pr pl f fs areas ws) in
      let xs = numbers A (take n ws) in
      let d = (move_rows (parts_with A code) t.frame t.pc t.ctrl (numbers A (drop n ws)) t.areas).pop_star xs in
      let d1 = subst (λ m. Executes (parts_with A code) (pop_star_code m) 1 (view t.frame t.pc t.ctrl (xs ++ numbers A (drop n ws)) t.areas)
      (view t.frame (t.pc + 2) t.ctrl (numbers A (drop n ws)) t.areas)) (many_taken n ws (most_true _ _ b)) d in
      let d2 = subst (λ us. Executes (parts_with A code) (pop_star_code n) 1 (view t.frame t.pc t.ctrl us t.areas)
      (view t.frame (t.pc + 2) t.ctrl (numbers A (drop n ws)) t.areas)) (sym (parted n ws)) d1 in
      next_row 1 2 _ ws (drop n ws) p h here after g d2)

  popn : (ws : List Word) (p : PitonState) → Row' 2 i.Popn ws p
  unfolding Row'
  popn ws p h here after e =
      by_one ws _ p (λ us. At us → SimulatesAt A code 2 s p) e (λ t0 rest g.
      by_nat t0 _ p (λ u. At (u ∷ rest) → SimulatesAt A code 2 s p) g (λ n g2 h2.
      by_true (nat_le n (length rest)) Range _ p _ g2 (λ b g3.
      let t = view_of A (state_with pr pl f fs areas rest) in
      let xs = numbers A (take n rest) in
      let left = numbers A (drop n rest) in
      let d = (move_rows (parts_with A code) t.frame t.pc t.ctrl left t.areas).popn xs in
      let d1 = subst (λ m. Executes (parts_with A code) popn_code 2 (view t.frame t.pc t.ctrl (m ∷ (xs ++ left)) t.areas)
      (view t.frame (t.pc + 2) t.ctrl left t.areas)) (many_taken n rest (most_true _ _ b)) d in
      let d2 = subst (λ us. Executes (parts_with A code) popn_code 2 (view t.frame t.pc t.ctrl (n ∷ us) t.areas)
      (view t.frame (t.pc + 2) t.ctrl left t.areas)) (sym (parted n rest)) d1 in
      next_row 2 2 _ (Nat n ∷ rest) (drop n rest) p h2 here after g3 d2))) h

  -- jumps
  jump : (l : ℕ) (ws : List Word) (p : PitonState) (k : ℕ) → Row' k (i.Jump l) ws p
  unfolding Row'
  jump l ws p k h here after e = goto_row 1 l _ ws ws p h here e ((jump_rows (parts_with A code) _ _ _ _ _).jump (A.place_at pr l))

  -- a jump where a test holds, else to the next place
  chosen : (b : Bool) (l k : ℕ) → Next k → (if b then A.place_at pr l else A.place_at pr pl + k) ≡ A.place_at pr (if b then l else pl + 1)
  unfolding Next
  chosen true l k after = refl
  chosen false l k after = sym after

  branch_row : (n k l : ℕ) (b : Bool) (words : List ℕ) (ws rest : List Word) (p : PitonState) → At ws → Here words → Next k
      → row.jump_where (state_with pr pl f fs areas ws) b l rest ≡ Ok p
      → (let t = view_of A (state_with pr pl f fs areas ws) in Executes (parts_with A code) words n t
      (view t.frame (if b then A.place_at pr l else t.pc + k) t.ctrl (numbers A rest) t.areas)) → SimulatesAt A code n s p
  branch_row n k l b words ws rest p h here after e d =
      let t = view_of A (state_with pr pl f fs areas ws) in
      by_ok _ p (SimulatesAt A code n s) e (run ws _ d h here (λ i. view t.frame (chosen b l k after i) t.ctrl (numbers A rest) t.areas))

  jump_if_temp_stk_full : (l : ℕ) (ws : List Word) (p : PitonState) → Row' 5 (i.JumpIfTempStkFull l) ws p
  unfolding Row'
  jump_if_temp_stk_full l ws p h here after e =
      let t = view_of A (state_with pr pl f fs areas ws) in
      let c = ready.temp_is in
      let size : A.end - A.temp_at ≡ S.temp = omega arith in
      let test : (length (numbers A ws) == A.end - A.temp_at) ≡ (length ws == S.temp) = λ i. length-map ws (word_number A) i == size i in
      branch_row 3 5 l (length ws == S.temp) _ ws ws p h here after e
      (subst (λ b. Executes (parts_with A code) (template A pr pl (length f.locals) (i.JumpIfTempStkFull l)) 3 t
      (view t.frame (if b then A.place_at pr l else t.pc + 5) t.ctrl t.temp t.areas)) test
      ((jump_rows (parts_with A code) _ _ _ _ _).jump_if_temp_stk_full (A.place_at pr l)))

  jump_if_temp_stk_empty : (l : ℕ) (ws : List Word) (p : PitonState) → Row' 5 (i.JumpIfTempStkEmpty l) ws p
  unfolding Row'
  jump_if_temp_stk_empty l ws p h here after e =
      let t = view_of A (state_with pr pl f fs areas ws) in
      let test : (length (numbers A ws) == 0) ≡ (length ws == 0) = ap (λ m. m == 0) (length-map ws (word_number A)) in
      branch_row 3 5 l (length ws == 0) _ ws ws p h here after e
      (subst (λ b. Executes (parts_with A code) (template A pr pl (length f.locals) (i.JumpIfTempStkEmpty l)) 3 t
      (view t.frame (if b then A.place_at pr l else t.pc + 5) t.ctrl t.temp t.areas)) test
      ((jump_rows (parts_with A code) _ _ _ _ _).jump_if_temp_stk_empty (A.place_at pr l)))

  jump_case : (ls : List ℕ) (ws : List Word) (p : PitonState) (k : ℕ) → Row' k (i.JumpCase ls) ws p
  unfolding Row'
  jump_case ls ws p k h here after e =
      let words = subst Here (jump_case_is A (A.place_at pr pl) pr ls) here in
      by_one ws _ p (λ us. At us → SimulatesAt A code 3 s p) e (λ t rest g.
      by_nat t _ p (λ u. At (u ∷ rest) → SimulatesAt A code 3 s p) g (λ n g2 h2.
      by_found (slice_get ls n) Range _ p _ g2 (λ l there g3.
      goto_row 3 l _ (Nat n ∷ rest) rest p h2 words g3
      ((jump_rows (parts_with A code) _ _ _ (numbers A rest) _).jump_case n (A.place_at pr l) _ (get_map (A.place_at pr) ls n l there))))) h

  pushj : (l : ℕ) (ws : List Word) (p : PitonState) (k : ℕ) → Row' k (i.Pushj l) ws p
  unfolding Row'
  pushj l ws p k h here after e =
      by_true (nat_lt (length ws) S.temp) TempFull _ p _ e (λ r g.
      goto_row 2 l _ ws (Pc pr (pl + 1) ∷ ws) p h here g
      ((jump_rows (parts_with A code) _ _ _ _ _).pushj (A.place_at pr (pl + 1)) (A.place_at pr l) (room ws r)))

  popj : (ws : List Word) (p : PitonState) (k : ℕ) → Row' k i.Popj ws p
  unfolding Row'
  popj ws p k h here after e =
      by_one ws _ p (λ us. At us → SimulatesAt A code 1 s p) e (λ t rest g.
      by_pc t _ p (λ u. At (u ∷ rest) → SimulatesAt A code 1 s p) g (λ a l g2 h2.
      by_true (a == pr) Range _ p _ g2 (λ b g3.
      let same : a ≡ pr = grind (arith, nat_tests) in
      let t0 = view_of A (state_with pr pl f fs areas (Pc a l ∷ rest)) in
      goto_row 1 l _ (Pc a l ∷ rest) rest p h2 here g3
      (subst (λ c. Executes (parts_with A code) (template A pr pl (length f.locals) i.Popj) 1 t0
      (view t0.frame (A.place_at c l) t0.ctrl (numbers A rest) t0.areas)) same
      ((jump_rows (parts_with A code) _ _ _ (numbers A rest) _).popj (A.place_at a l)))))) h

  test_and_jump : (lens : List ℕ) (I : ℕ → ℕ → Type 0) (J : ℕ → Type 0) (family : TestFamily) (kind : TestKind) (l : ℕ) (ws : List Word)
      (p : PitonState) → is_test family kind ≡ true → ((t : Word) (rest : List Word) → ws ≡ t ∷ rest → IsWordBy lens I J t)
      → Row' 3 (i.TestAndJump family kind l) ws p
  unfolding Row'
  test_and_jump lens I J family kind l ws p is fits h here after e =
      by_one ws _ p (λ us. ((t : Word) (rest : List Word) → us ≡ t ∷ rest → IsWordBy lens I J t) → At us → SimulatesAt A code 2 s p) e (λ t rest g fits2 h2.
      let view' = by_test A lens I J family kind t _ p is g (fits2 t rest refl) in
      let t0 = view_of A (state_with pr pl f fs areas (t ∷ rest)) in
      branch_row 2 3 l view'.b _ (t ∷ rest) rest p h2 here after view'.goes
      (subst (λ b. Executes (parts_with A code) (test_and_jump_code (condition_of kind) (A.place_at pr l)) 2 t0
      (view t0.frame (if b then A.place_at pr l else t0.pc + 3) t0.ctrl (numbers A rest) t0.areas)) view'.holds
      ((jump_rows (parts_with A code) _ _ _ (numbers A rest) _).test_and_jump (condition_of kind) (word_number A t) (A.place_at pr l)))) fits h

  -- a program called with the formals on top of rest, by the words of either call
  called_row : (cost0 program : ℕ) (words : List ℕ) (ws rest : List Word) (p : PitonState) → At ws → Here words
      → row.call S (state_with pr pl f fs areas ws) program rest ≡ Ok p
      → ((q : ProgramView) (xs ts : List ℕ) → CodeAt (parts_with A code) (A.entry_at program) (prelude_code (length xs) ts)
      → numbers A rest ≡ xs ++ numbers A (drop q.formals rest)
      → (let t = view_of A (state_with pr pl f fs areas rest) in let frame = framed xs ts t.frame (A.place_at pr (pl + 1)) t.ctrl in
      A.ctrl_at + length frame ≤ A.temp_at → Executes (parts_with A code) words (cost0 + length xs + length ts)
      (view_of A (state_with pr pl f fs areas ws))
      (view (A.temp_at - length frame) (A.entry_at program + length (prelude_code (length xs) ts)) frame (numbers A (drop q.formals rest))
      t.areas))) → SimulatesAt A code (cost0 + variables_of S program) s p
  called_row cost0 program words ws rest p h here e d =
      by_found (slice_get S.programs program) Range _ p _ e (λ q some g.
      by_true (nat_le q.formals (length rest)) TempEmpty _ p _ g (λ b g2.
      by_true (nat_le (ctrl_used (f ∷ fs) + (2 + (q.formals + length q.temporaries))) S.ctrl) CtrlFull _ p _ g2 (λ r g3.
      let t = view_of A (state_with pr pl f fs areas rest) in
      let next = A.place_at pr (pl + 1) in
      let xs = numbers A (take q.formals rest) in
      let ts = numbers A q.temporaries in
      let frame = framed xs ts t.frame next t.ctrl in
      let long : length xs ≡ q.formals = many_taken q.formals rest (most_true _ _ b) in
      let long' : length ts ≡ length q.temporaries = length-map q.temporaries (word_number A) in
      let size : length frame ≡ length xs + length ts + 2 + length t.ctrl = length-framed xs ts t.frame next t.ctrl in
      let many : length t.ctrl ≡ ctrl_used (f ∷ fs) = length-frames A (f ∷ fs) in
      let fits = most_true _ _ r in
      let c = ready.ctrl_is in
      let begins = subst (λ m. CodeAt (parts_with A code) (A.entry_at program) (prelude_code m ts)) (sym long) (ready.begins program q some) in
      let d1 = d q xs ts begins (parted q.formals rest) (omega arith) in
      let turned : reverse xs ++ ts ≡ numbers A (reverse (take q.formals rest) ++ q.temporaries) =
      ap (λ us. us ++ ts) (reverse_map (word_number A) (take q.formals rest)) ∙ sym
      (map-append (word_number A) (reverse (take q.formals rest)) q.temporaries) in
      let e1 : frame ≡ numbers A (reverse (take q.formals rest) ++ q.temporaries) ++ (t.frame ∷ next ∷ t.ctrl) =
      sym (append_assoc (reverse xs) ts (t.frame ∷ next ∷ t.ctrl)) ∙ ap (λ us. us ++ (t.frame ∷ next ∷ t.ctrl)) turned in
      let place : A.entry_at program + length (prelude_code (length xs) ts) ≡ A.place_at program 0 =
      ap (λ m. A.entry_at program + length (prelude_code m ts)) long ∙ sym (ready.first program q some) in
      let into : PitonState = record {
        program = program;
        place = 0;
        frames =
            record { locals = reverse (take q.formals rest) ++ q.temporaries; program = pr; place = pl + 1 } ∷ f ∷ fs;
        stack =
            drop q.formals rest;
        areas = areas;
      } in
      let taken : variables_of S program ≡ q.formals + length q.temporaries =
      ap (λ z. z.formals + length z.temporaries) (get_or_from_slice_get S.programs program q _ some) in
      let count : cost0 + length xs + length ts ≡ cost0 + variables_of S program = omega arith in
      by_ok _ p (SimulatesAt A code (cost0 + variables_of S program) s) g3
      (subst (λ m. SimulatesAt A code m s into) count
      (run ws into d1 h here (λ i. view (A.temp_at - length (e1 i)) (place i) (e1 i) (numbers A (drop q.formals rest)) t.areas))))))

  call : (program : ℕ) (ws : List Word) (p : PitonState) (k : ℕ) → Row' k (i.Call program) ws p
  unfolding Row'
  call program ws p k h here after e =
      called_row 4 program _ ws ws p h here e (λ q xs ts begins parts fits.
      let t = view_of A (state_with pr pl f fs areas ws) in
      let next = A.place_at pr (pl + 1) in
      let frame = framed xs ts t.frame next t.ctrl in
      let top : A.temp_at - length frame + length frame ≡ A.temp_at = omega arith in
      let d = (jump_rows (parts_with A code) t.frame t.pc t.ctrl (numbers A (drop q.formals ws)) t.areas).call next (A.entry_at program)
      (A.temp_at - length frame) xs ts begins fits top in
      subst (λ us. Executes (parts_with A code) (call_code next (A.entry_at program)) (4 + length xs + length ts) (view t.frame t.pc t.ctrl us t.areas)
      (view (A.temp_at - length frame) (A.entry_at program + length (prelude_code (length xs) ts)) frame (numbers A (drop q.formals ws)) t.areas))
      (sym parts) d)

  pop_call : (ws : List Word) (p : PitonState) (k : ℕ) → Row' k i.PopCall ws p
  unfolding Row'
  pop_call ws p k h here after e =
      by_one ws _ p (λ us. At us → SimulatesAt A code (5 + variables_on_top S us) s p) e (λ t0 rest g.
      by_subr t0 _ p (λ u. At (u ∷ rest) → SimulatesAt A code (5 + variables_on_top S (u ∷ rest)) s p) g (λ program g2 h2.
      called_row 5 program _ (Subr program ∷ rest) rest p h2 here g2 (λ q xs ts begins parts fits.
      let t = view_of A (state_with pr pl f fs areas rest) in
      let next = A.place_at pr (pl + 1) in
      let frame = framed xs ts t.frame next t.ctrl in
      let top : A.temp_at - length frame + length frame ≡ A.temp_at = omega arith in
      let d = (jump_rows (parts_with A code) t.frame t.pc t.ctrl (numbers A (drop q.formals rest)) t.areas).pop_call next (A.entry_at program)
      (A.temp_at - length frame) xs ts begins fits top in
      subst (λ us. Executes (parts_with A code) (pop_call_code next) (5 + length xs + length ts)
      (view t.frame t.pc t.ctrl (A.entry_at program ∷ us) t.areas)
      (view (A.temp_at - length frame) (A.entry_at program + length (prelude_code (length xs) ts)) frame (numbers A (drop q.formals rest)) t.areas))
      (sym parts) d))) h

  -- a return: to an older frame's program, or to the end
  returned : (gs : List Frame) (ws : List Word) (p : PitonState) → row.ret (state_with pr pl f fs areas ws) (f ∷ gs) ≡ Ok p
      → (let words = frame_words A gs in Executes (parts_with A code) (ret_code (length f.locals)) 4 (view_of A (state_with pr pl f fs areas ws))
      (view (pointer_to A gs words) (return_address A f gs) words (numbers A ws) (joined (map (numbers A) areas)))) → At ws
      → Here (ret_code (length f.locals)) → SimulatesAt A code 4 s p
  returned [] ws p e d h here = by_ok _ p (SimulatesAt A code 4 s) e (run ws _ d h here refl)
  returned (g ∷ gs) ws p e d h here = by_ok _ p (SimulatesAt A code 4 s) e (run ws _ d h here refl)

  ret : (ws : List Word) (p : PitonState) (k : ℕ) → Row' k i.Ret ws p
  unfolding Row'
  ret ws p k h here after e =
      let t0 = view_of A (state_with pr pl f fs areas ws) in
      let same : length (numbers A f.locals) ≡ length f.locals = length-map f.locals (word_number A) in
      let words = frame_words A fs in
      let d = (jump_rows (parts_with A code) t0.frame t0.pc words t0.temp t0.areas).ret (pointer_to A fs words) (return_address A f fs)
      (numbers A f.locals) (is_frame ws h) in
      returned fs ws p e (subst (λ m. Executes (parts_with A code) (ret_code m) 4 t0
      (view (pointer_to A fs words) (return_address A f fs) words t0.temp t0.areas)) same d) h here

  -- an operation whose words are found
  operation : (I : ℕ → ℕ → Type 0) (J : ℕ → Type 0) → TellApart A (map (λ xs. length xs) areas) I J
      → (o : WordOp) (third second top : Word) (below ws : List Word) (p : PitonState) → ws ≡ taken o third second top ++ below
      → (does_grow o ≡ true → length ws ≡ 1 + length below) → IsWordBy (map (λ xs. length xs) areas) I J third
      → IsWordBy (map (λ xs. length xs) areas) I J second → IsWordBy (map (λ xs. length xs) areas) I J top → At ws → Here (operation_code o)
      → Next (length (operation_code o)) → continuation S (state_with pr pl f fs areas ws) o
      record { third = third; second = second; top = top; below = below } ≡ Ok p → SimulatesAt A code (operation_cost o) s p
  operation I J names o third second top below ws p parts many fit3 fit2 fit1 h here after e =
      let t = view_of A (state_with pr pl f fs areas ws) in
      let lens = map (λ xs. length xs) areas in
      by_lifted (words.row_of o third second top lens) _ p _ e (λ out is g.
      by_grow (does_grow o) S.temp (state_with pr pl f fs areas ws) _ p _ g (λ free g2.
      let same : length (numbers A below) ≡ length below = length-map below (word_number A) in
      let room' = room_for (parts_with A code) S o (numbers A below) (length ws) ready.temp_is (λ b. many b ∙ ap (λ n. 1 + n) (sym same)) free in
      let d = each_operation (parts_with A code) A lens I J names t.frame t.pc t.ctrl (numbers A below) t.areas o third second top out is fit3 fit2 fit1
      room' in
      let whole : numbers A (taken o third second top) ++ numbers A below ≡ numbers A ws =
      sym (map-append (word_number A) (taken o third second top) below) ∙ ap (numbers A) (sym parts) in
      let d1 = subst (λ us. Executes (parts_with A code) (operation_code o) (operation_cost o) (view t.frame t.pc t.ctrl us t.areas)
      (view t.frame (t.pc + length (operation_code o)) t.ctrl (left A out (numbers A below)) t.areas)) whole d in
      let d2 = subst (λ us. Executes (parts_with A code) (operation_code o) (operation_cost o) t
      (view t.frame (t.pc + length (operation_code o)) t.ctrl us t.areas)) (left_is A out below) d1 in
      next_row (operation_cost o) (length (operation_code o)) (operation_code o) ws (row.results_on out below) p h here after g2 d2))

  AllFit : (ℕ → ℕ → Type 0) → (ℕ → Type 0) → List Word → Type 0
  AllFit I J ws = (k : ℕ) (w : Word) → slice_get ws k ≡ Some w → IsWordBy (map (λ xs. length xs) areas) I J w

  Applied : ℕ → WordOp → List Word → PitonState → Type 1
  Applied n o ws p = (I : ℕ → ℕ → Type 0) (J : ℕ → Type 0) → TellApart A (map (λ xs. length xs) areas) I J → AllFit I J ws → At ws
      → Here (operation_code o) → Next (length (operation_code o)) → (operands_of n ws >>= continuation S (state_with pr pl f fs areas ws) o) ≡ Ok p
      → SimulatesAt A code (operation_cost o) s p

  one_operand : (o : WordOp) (ws : List Word) (p : PitonState) → ((u v t : Word) → taken o u v t ≡ t ∷ []) → Applied 1 o ws p
  unfolding Applied AllFit then_on
  one_operand o [] p tk I J names fits h here after e = refused TempEmpty p e
  one_operand o (t ∷ rest) p tk I J names fits h here after e =
      let q = fits 0 t refl in
      operation I J names o t t t rest (t ∷ rest) p (ap (λ us. us ++ rest) (sym (tk t t t))) (λ b. omega arith) q q q h here after e

  two_operands : (o : WordOp) (ws : List Word) (p : PitonState) → does_grow o ≡ false → ((u v t : Word) → taken o u v t ≡ t ∷ v ∷ []) → Applied 2 o ws p
  unfolding Applied AllFit then_on
  two_operands o [] p flat tk I J names fits h here after e = refused TempEmpty p e
  two_operands o (t ∷ []) p flat tk I J names fits h here after e = refused TempEmpty p e
  two_operands o (t ∷ v ∷ rest) p flat tk I J names fits h here after e =
      let q = fits 0 t refl in
      operation I J names o t v t rest (t ∷ v ∷ rest) p (ap (λ us. us ++ rest) (sym (tk t v t))) (λ b. absurd cc) q (fits 1 v refl) q h here after e

  three_operands : (o : WordOp) (ws : List Word) (p : PitonState) → does_grow o ≡ false → ((u v t : Word) → taken o u v t ≡ t ∷ v ∷ u ∷ []) → Applied 3 o ws p
  unfolding Applied AllFit then_on
  three_operands o [] p flat tk I J names fits h here after e = refused TempEmpty p e
  three_operands o (t ∷ []) p flat tk I J names fits h here after e = refused TempEmpty p e
  three_operands o (t ∷ v ∷ []) p flat tk I J names fits h here after e = refused TempEmpty p e
  three_operands o (t ∷ v ∷ u ∷ rest) p flat tk I J names fits h here after e =
      operation I J names o u v t rest (t ∷ v ∷ u ∷ rest) p (ap (λ us. us ++ rest) (sym (tk u v t))) (λ b. absurd cc) (fits 2 u refl) (fits 1 v refl)
      (fits 0 t refl) h here after e

  each_applied : (o : WordOp) (ws : List Word) (p : PitonState) → Applied (words_taken o) o ws p
  each_applied op.Eq ws p = two_operands op.Eq ws p refl (λ u v t. refl)
  each_applied op.AddInt ws p = two_operands op.AddInt ws p refl (λ u v t. refl)
  each_applied op.AddNat ws p = two_operands op.AddNat ws p refl (λ u v t. refl)
  each_applied op.SubInt ws p = two_operands op.SubInt ws p refl (λ u v t. refl)
  each_applied op.SubNat ws p = two_operands op.SubNat ws p refl (λ u v t. refl)
  each_applied op.AddAddr ws p = two_operands op.AddAddr ws p refl (λ u v t. refl)
  each_applied op.SubAddr ws p = two_operands op.SubAddr ws p refl (λ u v t. refl)
  each_applied op.LtInt ws p = two_operands op.LtInt ws p refl (λ u v t. refl)
  each_applied op.LtNat ws p = two_operands op.LtNat ws p refl (λ u v t. refl)
  each_applied op.LtAddr ws p = two_operands op.LtAddr ws p refl (λ u v t. refl)
  each_applied op.Add1Int ws p = one_operand op.Add1Int ws p (λ u v t. refl)
  each_applied op.Add1Nat ws p = one_operand op.Add1Nat ws p (λ u v t. refl)
  each_applied op.Sub1Int ws p = one_operand op.Sub1Int ws p (λ u v t. refl)
  each_applied op.Sub1Nat ws p = one_operand op.Sub1Nat ws p (λ u v t. refl)
  each_applied op.NegInt ws p = one_operand op.NegInt ws p (λ u v t. refl)
  each_applied op.IntToNat ws p = one_operand op.IntToNat ws p (λ u v t. refl)
  each_applied op.Mult2Nat ws p = one_operand op.Mult2Nat ws p (λ u v t. refl)
  each_applied op.AddIntWithCarry ws p = three_operands op.AddIntWithCarry ws p refl (λ u v t. refl)
  each_applied op.AddNatWithCarry ws p = three_operands op.AddNatWithCarry ws p refl (λ u v t. refl)
  each_applied op.SubIntWithCarry ws p = three_operands op.SubIntWithCarry ws p refl (λ u v t. refl)
  each_applied op.SubNatWithCarry ws p = three_operands op.SubNatWithCarry ws p refl (λ u v t. refl)
  each_applied op.Mult2NatWithCarryOut ws p = one_operand op.Mult2NatWithCarryOut ws p (λ u v t. refl)
  each_applied op.Div2Nat ws p = one_operand op.Div2Nat ws p (λ u v t. refl)
  each_applied op.OrBitv ws p = two_operands op.OrBitv ws p refl (λ u v t. refl)
  each_applied op.AndBitv ws p = two_operands op.AndBitv ws p refl (λ u v t. refl)
  each_applied op.XorBitv ws p = two_operands op.XorBitv ws p refl (λ u v t. refl)
  each_applied op.OrBool ws p = two_operands op.OrBool ws p refl (λ u v t. refl)
  each_applied op.AndBool ws p = two_operands op.AndBool ws p refl (λ u v t. refl)
  each_applied op.NotBitv ws p = one_operand op.NotBitv ws p (λ u v t. refl)
  each_applied op.RshBitv ws p = one_operand op.RshBitv ws p (λ u v t. refl)
  each_applied op.LshBitv ws p = one_operand op.LshBitv ws p (λ u v t. refl)
  each_applied op.NotBool ws p = one_operand op.NotBool ws p (λ u v t. refl)

  on_top : (I : ℕ → ℕ → Type 0) (J : ℕ → Type 0) (ws : List Word) → AllFit I J ws → (t : Word) (rest : List Word) → ws ≡ t ∷ rest
      → IsWordBy (map (λ xs. length xs) areas) I J t
  unfolding AllFit
  on_top I J ws fits t rest e = fits 0 t (ap (λ us. slice_get us 0) e)

  -- each instruction's code does its step
  pub each_row : (I : ℕ → ℕ → Type 0) (J : ℕ → Type 0) → TellApart A (map (λ xs. length xs) areas) I J
      → (i : Instruction) (ws : List Word) (p : PitonState) → Asks f areas i
      → ((k : ℕ) (w : Word) → slice_get ws k ≡ Some w → IsWordBy (map (λ xs. length xs) areas) I J w)
      → StandsAt A code s (state_with pr pl f fs areas ws) → CodeAt (parts_with A code) (A.place_at pr pl) (template A pr pl (length f.locals) i)
      → A.place_at pr (pl + 1) ≡ A.place_at pr pl + length (template A pr pl (length f.locals) i) → row_of S (state_with pr pl f fs areas ws) i ≡ Ok p
      → SimulatesAt A code (cost_of S (state_with pr pl f fs areas ws) i) s p
  unfolding Row' At Here Next Applied AllFit
  each_row I J names (i.PushConstant w) ws p asks fits h here after e = push_constant w ws p h here after e
  each_row I J names (i.PushLocal k) ws p asks fits h here after e = push_local k ws p h here after e
  each_row I J names (i.PopLocal k) ws p asks fits h here after e = pop_local k ws p asks h here after e
  each_row I J names (i.SetLocal k) ws p asks fits h here after e = set_local k ws p asks h here after e
  each_row I J names (i.PushGlobal a) ws p asks fits h here after e = push_global a ws p h here after e
  each_row I J names (i.PopGlobal a) ws p asks fits h here after e = pop_global a ws p asks h here after e
  each_row I J names (i.SetGlobal a) ws p asks fits h here after e = set_global a ws p asks h here after e
  each_row I J names (i.PushTempStkIndex n) ws p asks fits h here after e = push_temp_stk_index n ws p h here after e
  each_row I J names i.PushTempStkFreeSize ws p asks fits h here after e = push_temp_stk_free_size ws p h here after e
  each_row I J names i.PushCtrlStkFreeSize ws p asks fits h here after e = push_ctrl_stk_free_size ws p h here after e
  each_row I J names i.FetchTempStk ws p asks fits h here after e = fetch_temp_stk ws p h here after e
  each_row I J names i.DepositTempStk ws p asks fits h here after e = deposit_temp_stk ws p h here after e
  each_row I J names i.Fetch ws p asks fits h here after e = fetch ws p h here after e
  each_row I J names i.Deposit ws p asks fits h here after e = deposit I J ws p (on_top I J ws fits) h here after e
  each_row I J names i.Pop ws p asks fits h here after e = pop ws p h here after e
  each_row I J names (i.PopStar n) ws p asks fits h here after e = pop_star n ws p h here after e
  each_row I J names i.Popn ws p asks fits h here after e = popn ws p h here after e
  each_row I J names i.NoOp ws p asks fits h here after e = no_op ws p h here after e
  each_row I J names (i.Jump l) ws p asks fits h here after e = jump l ws p _ h here after e
  each_row I J names (i.JumpIfTempStkFull l) ws p asks fits h here after e = jump_if_temp_stk_full l ws p h here after e
  each_row I J names (i.JumpIfTempStkEmpty l) ws p asks fits h here after e = jump_if_temp_stk_empty l ws p h here after e
  each_row I J names (i.JumpCase ls) ws p asks fits h here after e = jump_case ls ws p _ h here after e
  each_row I J names (i.Pushj l) ws p asks fits h here after e = pushj l ws p _ h here after e
  each_row I J names i.Popj ws p asks fits h here after e = popj ws p _ h here after e
  each_row I J names (i.TestAndJump family kind l) ws p asks fits h here after e =
      test_and_jump (map (λ xs. length xs) areas) I J family kind l ws p asks (on_top I J ws fits) h here after e
  each_row I J names (i.Call program) ws p asks fits h here after e = call program ws p _ h here after e
  each_row I J names i.PopCall ws p asks fits h here after e = pop_call ws p _ h here after e
  each_row I J names i.Ret ws p asks fits h here after e = ret ws p _ h here after e
  each_row I J names (i.Apply o) ws p asks fits h here after e =
      let is = codes_are A (A.place_at pr pl) (operation_code o) in
      each_applied o ws p I J names fits h (subst (λ us. CodeAt (parts_with A code) (A.place_at pr pl) us) is here)
      (after ∙ ap (λ us. A.place_at pr pl + length us) is) e
