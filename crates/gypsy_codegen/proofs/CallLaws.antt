-- A call, with room and without, and what follows its callee.
use Rattle.std.proofs.Common.{◌≡◌, ℕ, zero, suc, ◌+◌, ◌-◌, ◌*◌, ◌<◌, ◌≤◌, List, [], ◌∷◌, ◌++◌, length, map, drop, take, max, Bool, true, false, Some, None}
use Rattle.std.{proofs.Common.{refl, sym, ap, ◌∙◌, subst, arith, length-append, leb-true, ltb-true}, specs.Prelude.{slice_get, get_or, if◌then◌else◌, ◌==◌}}
use Rattle.std.{specs.Prelude.{nat_lt, not, reverse}, proofs.lemmas.Bool.{ne_eqb, leb-false, cond-false}, proofs.lemmas.List.{length-map, append-nil}}
use Rattle.std.{proofs.lemmas.List.take-append-drop, proofs.Math.Seq.drop-append_seam}
use Rattle.stack_text.specs.Values.{ValueOf}
use Rattle.piton_words.{specs.declared.word.Word.Word, specs.declared.word.Word.TheVariants.Nat}
use Rattle.piton_check.specs.Instruction as i
use Rattle.piton_check.specs.Instruction.{Instruction}
use Rattle.piton_semantics.specs.State as piton
use Rattle.gypsy_syntax.specs.Programs.{ConditionOf, Leave, Routine, Space, Declared, Program, proc_at, body_of, shapes_of, conds_of, Call}
use Rattle.gypsy_syntax.{specs.ProgramFits.CallFits, specs.Effects.value_at, specs.ValuesFit.VarsFit}
use Rattle.gypsy_space.{specs.Costs.{Tally, spend, out_spend, main_spend}, specs.Needs.{StackSizes, temp_need, local_words, vars_of, with_call, call_need}}
use Rattle.gypsy_space.{specs.Needs.{has_temp_room, has_ctrl_room, lack_of, call_spend}, specs.declared.need.Lack.Lack}
use Rattle.gypsy_space.{specs.declared.need.Lack.TheVariants.{Nothing, Temporary, Control}, proofs.SpendLaws.spend_two}
use Rattle.gypsy_semantics.{specs.Calls.{CurrentCondition, copied_in, copied_out, is_passed_on, matching, main_way, main_formals}, specs.Machine.{Item, Do}}
use Rattle.gypsy_semantics.{specs.Machine.{Frame, Held, At, open_on, settle, raise, used}, specs.Kept.{in_loop, WorkFits}, specs.Room.{HasWords, CoversWork}}
use Rattle.gypsy_semantics.{proofs.Keeping.locals_fit, proofs.LendingLaws.actuals_length}
use Rattle.gypsy_predef.specs.Runs.{push_all}
use Rattle.gypsy_codegen.{specs.WordsOf.{words_of_values, starts, local_shapes, number_of, number_of_way}, specs.Guard.{guard_code, guard_size}}
use Rattle.gypsy_codegen.specs.Generated.{Scope, out_place, raise_code, raises, raise_places, after_size, after_code, push_words, push_indices, push_actuals}
use Rattle.gypsy_codegen.{specs.Generated.{before_size, size, code_of, generated_view, generated_program}, specs.Memory.{stack_of, base_of, index_of}}
use Rattle.gypsy_codegen.{specs.Memory.index_words, specs.Showing.{HasAt, IsBehindCall, gen_in, Stands, Waits, frame_with}, specs.Law.Halts}
use Rattle.gypsy_codegen.{proofs.CopyLaws.{copied_back, actuals_below}, proofs.StackLaws.{push_all-length, push_all-append, values_words, starts-length}}
use Rattle.gypsy_codegen.{proofs.LayoutLaws.{height, low_fits, ctrl_is, newest}, proofs.StepLaws.{P, Pt, state, spent, Goes, steps_on, stay, lands_at}}
use Rattle.gypsy_codegen.{proofs.StepLaws.{spend_as, three, pushed_dropped, pushed_reverse, program_there}, proofs.PushLaws.{has_front, has_back, size_words}}
use Rattle.gypsy_codegen.proofs.PushLaws.{size_indices, size_actuals, Live, free_temp, here, top, passes, jumps, sets_cc, words_go, indices_go, actuals_go}
use Rattle.gypsy_codegen.proofs.StandLaws.{size_raises, tail_at, ret_at, moved, settle_stands, body_stands, Comes, comes_on, lands, raises_leads}
use Rattle.gypsy_codegen.proofs.StepLaws as go
use Rattle.gypsy_codegen.proofs.GuardLaws as guard

-- what a call's room says
pub record Room (q : Program) (sizes : StackSizes) (p : ℕ) (u : StackSizes) : Type 0 where
  pub temp : u.temp + (local_words (proc_at q p) + length (proc_at q p).locals + length (proc_at q p).formals) ≤ sizes.temp
  pub ctrl : u.ctrl + (2 + vars_of (proc_at q p)) ≤ sizes.ctrl
  pub callee : HasWords q sizes p (with_call q p u)

more_room : (a l n m s : ℕ) → a + max m (l + n) ≤ s → (a + m ≤ s) × (a + l + n ≤ s)
more_room a l n m s h = (omega (arith, h), omega (arith, h))

room_parts : (q : Program) (sizes : StackSizes) (p : ℕ) (u : StackSizes) → u.temp + (call_need q p).temp ≤ sizes.temp
    → u.ctrl + (call_need q p).ctrl ≤ sizes.ctrl → Room q sizes p u
unfolding call_need with_call
room_parts q sizes p u temp ctrl =
    let c = proc_at q p in
    let l = local_words c in
    let n = l + length c.locals + length c.formals in
    let both = more_room u.temp l (temp_need c) n sizes.temp temp in
    record { temp = both.0; ctrl = omega (arith, ctrl); callee = (both.1, omega (arith, ctrl)) }

-- what the lack of a call says
abbrev pub Lacks : Program → StackSizes → ℕ → StackSizes → Lack → Type 0
Lacks q sizes p u Nothing = (u.temp + (call_need q p).temp ≤ sizes.temp) × (u.ctrl + (call_need q p).ctrl ≤ sizes.ctrl)
Lacks q sizes p u Temporary = sizes.temp < u.temp + (call_need q p).temp
Lacks q sizes p u Control = (u.temp + (call_need q p).temp ≤ sizes.temp) × (sizes.ctrl < u.ctrl + (call_need q p).ctrl)

pub lacks : (q : Program) (sizes : StackSizes) (p : ℕ) (u : StackSizes) → Lacks q sizes p u (lack_of q sizes p u)
unfolding lack_of
lacks q sizes p u = by_room (has_temp_room q sizes p u) (has_ctrl_room q sizes p u) refl refl
  where
    by_room : (a b : Bool) → has_temp_room q sizes p u ≡ a → has_ctrl_room q sizes p u ≡ b
        → Lacks q sizes p u (if not a then Temporary else if not b then Control else Nothing)
    by_room false b e f = leb-false (u.temp + (call_need q p).temp) sizes.temp e
    by_room true false e f = (leb-true (u.temp + (call_need q p).temp) sizes.temp e, leb-false (u.ctrl + (call_need q p).ctrl) sizes.ctrl f)
    by_room true true e f = (leb-true (u.temp + (call_need q p).temp) sizes.temp e, leb-true (u.ctrl + (call_need q p).ctrl) sizes.ctrl f)

words-append : (a b : List ℕ) → index_words a ++ index_words b ≡ index_words (a ++ b)
words-append [] b = refl
words-append (x ∷ a) b = ap (λ l. Nat x ∷ l) (words-append a b)

abbrev frame_from : List Word → ℕ → ℕ → piton.Frame
frame_from l program place = record { locals = l; program = program; place = place }

call_spent : (q : Program) (c : ℕ) (t : Tally) →
    let d = proc_at q c in
    let m = length d.locals in
    let k = length d.formals in
    spend (26 + (local_words d + 4 * (k + m))) (9 + (local_words d + (k + m))) t ≡ call_spend q c t
unfolding call_spend
call_spent q c t = refl

call_stack : (q : Program) (c p : ℕ) (xs : List ℕ) (x : List ValueOf) (w : List Item) (cs : List ConditionOf) (fs : List Frame) (s : List Word)
    → length xs ≡ length (proc_at q c).formals → s ≡ stack_of q p x fs → push_all (words_of_values (proc_at q c).locals) s
    ≡ stack_of q c (copied_in q c xs x) (Held p x w xs cs ∷ fs)
unfolding copied_in
call_stack q c p xs x w cs fs s many es =
    let vs = (proc_at q c).locals in
    let ys = map (value_at x) xs in
    let n : length (proc_at q c).formals ≡ length ys = omega (arith, many, length-map xs (value_at x)) in
    let dropped : drop (length (proc_at q c).formals) (ys ++ vs) ≡ vs = ap (λ k. drop k (ys ++ vs)) n ∙ drop-append_seam ys vs in
    ap (push_all (words_of_values vs)) (es ∙ ap (λ z. stack_of q p z fs) (sym (copied_back xs vs x)))
    ∙ ap (λ z. push_all (words_of_values z) (stack_of q p (copied_out xs (ys ++ vs) x) fs)) (sym dropped)

module _ {q : Program} {sizes : StackSizes} {base p : ℕ} {fs : List Frame} {fr : List piton.Frame} (a : Live q sizes base p fs fr) (x : List ValueOf)
    (s : List Word) (es : s ≡ stack_of q p x fs) (v : VarsFit (shapes_of (proc_at q p)) x) where
  tall_is : length s ≡ (used q p fs).temp
  tall_is = ap length es ∙ height q p x fs v a.frames_fit

  -- what stands behind a call
  behind_call : (place c : ℕ) (xs : List ℕ) (cs : List ConditionOf) (env : List Scope) (at : ℕ)
      → HasAt (code_of q p) at (gen_in q p env at (Call place c xs cs)) → HasAt (code_of q p) (at + guard_size + before_size q c xs)
      (after_code q p (size q (body_of q p)) env (at + guard_size + before_size q c xs) (local_words (proc_at q c)) cs)
  behind_call place c xs cs env at h =
      let code = code_of q p in
      let d = proc_at q c in
      let ws = words_of_values d.locals in
      let l = local_words d in
      let sh = local_shapes d in
      let at0 = at + guard_size in
      let ra = at0 + before_size q c xs in
      let after = after_code q p (size q (body_of q p)) env ra l cs in
      let pa = push_actuals q p xs in
      let pi = push_indices l 0 0 sh in
      let pw = push_words ws in
      let at1 = at0 + length ws in
      let at2 = at1 + length sh in
      let at3 = at2 + length xs in
      let h0 = has_back code at (guard_code (call_need q c) (ra + 6)) (pw ++ (pi ++ (pa ++ i.Call c ∷ after))) at0 (omega arith) h in
      let hi = has_back code at0 pw (pi ++ (pa ++ i.Call c ∷ after)) at1 (omega (arith, size_words ws)) h0 in
      let ha = has_back code at1 pi (pa ++ i.Call c ∷ after) at2 (omega (arith, size_indices l 0 0 sh)) hi in
      let hc = has_back code at2 pa (i.Call c ∷ after) at3 (omega (arith, size_actuals q p xs)) ha in
      let e : at3 + 1 ≡ ra = omega (arith, length-map d.locals (λ (v : ValueOf). v.shape)) in
      subst (λ r. HasAt code r after) e hc.1

  -- where the guard goes: spaceerror is raised
  space_leads : (place c : ℕ) (xs : List ℕ) (cs : List ConditionOf) (env : List Scope) (at : ℕ) (w : List Item) (u t : Tally) → spend 4 3 u ≡ t
      → Stands q p env at (Do (Call place c xs cs) ∷ w) → Comes q (generated_view q sizes base)
      (Pt p (at + guard_size + before_size q c xs + 6) 2 s fr u) (raise Space p x w fs t)
  space_leads place c xs cs env at w u t e st =
      let n = size q (body_of q p) in
      let ra = at + guard_size + before_size q c xs in
      let rest = raises q p n env cs ++ i.NoOp ∷ [] in
      let h = behind_call place c xs cs env at st.0 in
      let r = has_back (code_of q p) (ra + 1 + 1 + 1) (raise_code q p n env Routine) (raise_code q p n env Space ++ rest) (ra + 6) (omega arith) h.1.1.1 in
      raises_leads a x s es v Space w env (ra + 6) (at + size q (Call place c xs cs)) 2 rest u t e r st.1

  module _ (place c : ℕ) (xs : List ℕ) (cs : List ConditionOf) (env : List Scope) (at : ℕ) (w : List Item) (u t : Tally)
      (two : 2 ≤ temp_need (proc_at q p)) (e : u ≡ t) (st : Stands q p env at (Do (Call place c xs cs) ∷ w)) where
    -- a call without room on the temporary stack
    pub lack_temporary_leads : Lacks q sizes c (used q p fs) Temporary → Comes q (generated_view q sizes base) (Pt p at 2 s fr u)
        (raise Space p x w fs (spend 15 7 t))
    lack_temporary_leads lack =
        let to = at + guard_size + before_size q c xs + 6 in
        comes_on (guard.temp_lacks a x s es v two (call_need q c) at 2 to _ u st.0 (omega (arith, lack, tall_is)))
        (space_leads place c xs cs env at w (spend 11 4 u) (spend 15 7 t) (spend_two 4 3 11 4 u ∙ ap (spend 15 7) e) st)

    -- a call without room on the control stack alone
    pub lack_control_leads : Lacks q sizes c (used q p fs) Control → Comes q (generated_view q sizes base) (Pt p at 2 s fr u)
        (raise Space p x w fs (spend 26 11 t))
    lack_control_leads lack =
        let to = at + guard_size + before_size q c xs + 6 in
        comes_on (guard.ctrl_lacks a x s es v two (call_need q c) at 2 to _ u st.0 (omega (arith, lack.0, tall_is))
        (omega (arith, lack.1, ctrl_is q p fs fr a.frames_fit a.waits)))
        (space_leads place c xs cs env at w (spend 22 8 u) (spend 26 11 t) (spend_two 4 3 22 8 u ∙ ap (spend 26 11) e) st)

  -- a call with room
  pub call_leads : (place c : ℕ) (xs : List ℕ) (cs : List ConditionOf) (env : List Scope) (at : ℕ) (w : List Item) (u t : Tally)
      → CallFits q (shapes_of (proc_at q p)) (conds_of (proc_at q p)) (in_loop w) c xs cs → WorkFits q (proc_at q p) w → CoversWork (proc_at q p) w
      → 2 ≤ temp_need (proc_at q p) → Lacks q sizes c (used q p fs) Nothing → u ≡ t → Stands q p env at (Do (Call place c xs cs) ∷ w)
      → Comes q (generated_view q sizes base) (Pt p at 2 s fr u)
      (At c (copied_in q c xs x) (open_on (body_of q c) []) (Held p x w xs cs ∷ fs) (call_spend q c t))
  call_leads place c xs cs env at w u t cf wf cw two has e st =
      let S = generated_view q sizes base in
      let code = code_of q p in
      let d = proc_at q c in
      let ws = words_of_values d.locals in
      let l = local_words d in
      let sh = local_shapes d in
      let m = length d.locals in
      let k = length d.formals in
      let n = length xs in
      let f = λ (b : ℕ). index_of q p fs b in
      let ys = map f xs in
      let low = base_of q p fs in
      let need = call_need q c in
      let room = room_parts q sizes c (used q p fs) has.0 has.1 in
      let many : n ≡ k = actuals_length (shapes_of (proc_at q p)) d.formals xs cf.actuals in
      let wl : length ws ≡ l = values_words sh d.locals (locals_fit d.locals (a.fits.procs c).locals) in
      let sm : length sh ≡ m = length-map d.locals (λ (v : ValueOf). v.shape) in
      let tall : length s ≡ low = tall_is in
      let at0 = at + guard_size in
      let ra = at0 + before_size q c xs in
      let after = after_code q p (size q (body_of q p)) env ra l cs in
      let pa = push_actuals q p xs in
      let pi = push_indices l 0 0 sh in
      let pw = push_words ws in
      let rest = pw ++ (pi ++ (pa ++ i.Call c ∷ after)) in
      let h = has_back code at (guard_code need (ra + 6)) rest at0 (omega arith) st.0 in
      let at1 = at0 + length ws in
      let at2 = at1 + length sh in
      let at3 = at2 + n in
      let hi = has_back code at0 pw (pi ++ (pa ++ i.Call c ∷ after)) at1 (omega (arith, size_words ws)) h in
      let ha = has_back code at1 pi (pa ++ i.Call c ∷ after) at2 (omega (arith, size_indices l 0 0 sh)) hi in
      let hc = has_back code at2 pa (i.Call c ∷ after) at3 (omega (arith, size_actuals q p xs)) ha in
      let u0 = spend 22 8 u in
      let u1 = spend (length ws) (length ws) u0 in
      let u2 = spend (3 * length sh) (length sh) u1 in
      let u3 = spend (3 * n) n u2 in
      let local_indices = index_words (starts low sh) in
      let actual_indices = index_words ys in
      let s1 = push_all ws s in
      let s2 = push_all local_indices s1 in
      let tall1 : length s1 ≡ length ws + length s = push_all-length ws s in
      let w1 : length local_indices ≡ length sh = length-map (starts low sh) (λ n. Nat n) ∙ starts-length low sh in
      let w2 : length actual_indices ≡ n = length-map ys (λ n. Nat n) ∙ length-map xs f in
      let tall2 : length s2 ≡ length local_indices + length s1 = push_all-length local_indices s1 in
      let used_ctrl = ctrl_is q p fs fr a.frames_fit a.waits in
      let go0 = guard.has_room a x s es v two need at 2 (ra + 6) rest u st.0 (omega (arith, has.0, tall)) (omega (arith, has.1, used_ctrl)) in
      let go1 = words_go a ws at0 2 s u0 (omega (arith, room.temp, wl, tall)) (has_front code at0 pw (pi ++ (pa ++ i.Call c ∷ after)) h) in
      let go2 = indices_go a sh l 0 0 low low at1 2 s1 u1 (omega (arith, tall1, wl, tall)) (omega arith) (omega arith)
      (omega (arith, room.temp, tall1, wl, tall, sm)) (has_front code at1 pi (pa ++ i.Call c ∷ after) hi) in
      let go3 = actuals_go a xs at2 2 s2 u2 (actuals_below (shapes_of (proc_at q p)) d.formals xs cf.actuals)
      (omega (arith, room.temp, tall2, w1, tall1, wl, tall, sm, many)) (has_front code at2 pa (i.Call c ∷ after) ha) in
      let prog = generated_program q c in
      let is_other = ne_eqb c q.main cf.not_main in
      let form : prog.formals ≡ vars_of d = cond-false (c == q.main) 0 (vars_of d) is_other in
      let temps : prog.temporaries ≡ [] = cond-false (c == q.main) (map (λ n. Nat n) (starts 0 (shapes_of d))) [] is_other in
      let many' : prog.formals ≡ length (local_indices ++ actual_indices) = omega (arith, form, length-append local_indices actual_indices, w1, w2, sm, many) in
      let no_temps : length prog.temporaries ≡ 0 = ap length temps in
      let ctrl_fits : piton.ctrl_used fr + (2 + (prog.formals + length prog.temporaries)) ≤ sizes.ctrl = omega (arith, room.ctrl, form, no_temps, used_ctrl) in
      let go4 = go.calls q sizes base p (here a) fr _ _ (top a).is at3 2 c prog (local_indices ++ actual_indices) s1 u3 hc.0
      (program_there q sizes base c cf.callee) many' ctrl_fits in
      let here_ra : at3 + 1 ≡ ra = omega (arith, sm) in
      let locals_are : (local_indices ++ actual_indices) ++ prog.temporaries ≡ index_words (starts low sh ++ ys) =
      ap (λ z. (local_indices ++ actual_indices) ++ z) temps ∙ append-nil (local_indices ++ actual_indices) ∙ words-append (starts low sh) ys in
      let frame_is : frame_from ((local_indices ++ actual_indices) ++ prog.temporaries) p (at3 + 1) ≡ frame_with q c (Held p x w xs cs ∷ fs) p ra =
      ap (λ z. frame_from z p (at3 + 1)) locals_are ∙ ap (frame_from (index_words (starts low sh ++ ys)) p) here_ra in
      let last = 4 + (prog.formals + length prog.temporaries) in
      let u4 = spend last 1 u3 in
      let fr' = frame_with q c (Held p x w xs cs ∷ fs) p ra ∷ fr in
      let go4' : Goes S (Pt p at3 2 (push_all actual_indices s2) fr u3) (Pt c 0 2 s1 fr' u4) =
      subst (λ z. Goes S (Pt p at3 2 z fr u3) (Pt c 0 2 s1 fr' u4)) (push_all-append local_indices actual_indices s1)
      (subst (λ z. Goes S (Pt p at3 2 (push_all (local_indices ++ actual_indices) s1) fr u3) (Pt c 0 2 s1 (z ∷ fr) u4)) frame_is go4) in
      let at_ra = subst (λ r. HasAt code r after) here_ra hc.1 in
      let g : at + (guard_size + (before_size q c xs + after_size cs)) ≡ ra + after_size cs = omega arith in
      let before : ra - 1 ≡ at3 = omega (arith, here_ra) in
      let behind_call : IsBehindCall code ra c = (omega (arith, here_ra), ap (slice_get code) before ∙ hc.0) in
      let waits : Waits q c (Held p x w xs cs ∷ fs) fr' = (ra, fr, refl, env, at_ra, moved q p env _ _ w g st.1, a.waits, behind_call) in
      let a' : Live q sizes base c (Held p x w xs cs ∷ fs) fr' =
      record {
        fits = a.fits;
        small = a.small;
        bodies = a.bodies;
        frames_fit = (cf, v, wf, a.frames_fit);
        waits = waits;
        words = (room.callee, cw, a.words);
      } in
      let tally : u4 ≡ call_spend q c t =
      ap (spend last 1) (three (3 * n) n (3 * length sh) (length sh) (length ws) (length ws) u0)
      ∙ spend_two last 1 (length ws + 3 * length sh + 3 * n) (length ws + length sh + n) u0
      ∙ spend_two (length ws + 3 * length sh + 3 * n + last) (length ws + length sh + n + 1) 22 8 u
      ∙ spend_as _ _ (26 + (l + 4 * (k + m))) (9 + (l + (k + m))) u (omega (arith, wl, sm, many, form, no_temps)) (omega (arith, wl, sm, many))
      ∙ call_spent q c u
      ∙ ap (call_spend q c) e in
      comes_on (steps_on go0 (steps_on go1 (steps_on go2 (steps_on go3 go4'))))
      (lands a' (copied_in q c xs x) s1 0 (open_on (body_of q c) []) u4 (call_spend q c t) (call_stack q c p xs x w cs fs s many es) tally
      (body_stands q c))

raise_at : (code : List Instruction) (q : Program) (p n : ℕ) (env : List Scope) (cs : List ConditionOf) (j at : ℕ) (b : List Instruction)
    → HasAt code at (raises q p n env cs ++ b) → j < length cs → (rest : List Instruction)
    × HasAt code (at + 3 * j) (raise_code q p n env (get_or cs j Routine) ++ rest)
raise_at code q p n env [] j at b h l = absurd (omega (arith, l))
raise_at code q p n env (c ∷ cs) zero at b h l =
    let e : at ≡ at + 3 * 0 = omega arith in
    (raises q p n env cs ++ b, subst (λ z. HasAt code z (raise_code q p n env c ++ (raises q p n env cs ++ b))) e h)
raise_at code q p n env (c ∷ cs) (suc j) at b h l =
    let e : at + 1 + 1 + 1 + 3 * j ≡ at + 3 * suc j = omega arith in
    let r = raise_at code q p n env cs j (at + 1 + 1 + 1) b h.1.1.1 (omega (arith, l)) in
    (r.0, subst (λ z. HasAt code z (raise_code q p n env (get_or cs j Routine) ++ r.0)) e r.1)

place_at : (cs : List ConditionOf) (j at : ℕ) → j < length cs → slice_get (raise_places at cs) j ≡ Some (at + 3 * j)
place_at [] j at l = absurd (omega (arith, l))
place_at (c ∷ cs) zero at l = let e : at ≡ at + 3 * 0 = omega arith in ap Some e
place_at (c ∷ cs) (suc j) at l =
    let e : at + 3 + 3 * j ≡ at + 3 * suc j = omega arith in
    place_at cs j (at + 3) (omega (arith, l)) ∙ ap Some e

out_true : (t : Tally) → spend 14 7 t ≡ out_spend true t
unfolding out_spend
out_true t = refl

out_false : (t : Tally) → spend 17 9 t ≡ out_spend false t
unfolding out_spend
out_false t = refl

-- the end of an activation above main's
module _ {q : Program} {sizes : StackSizes} {base p c : ℕ} {x : List ValueOf} {w : List Item} {xs : List ℕ} {cs : List ConditionOf} {fs : List Frame}
    {fr : List piton.Frame} (a : Live q sizes base p (Held c x w xs cs ∷ fs) fr) (y : List ValueOf) (s : List Word)
    (es : s ≡ stack_of q p y (Held c x w xs cs ∷ fs)) (v : VarsFit (shapes_of (proc_at q p)) y) where
  below : Live q sizes base c fs a.waits.1
  below = record { fits = a.fits; small = a.small; bodies = a.bodies; frames_fit = a.frames_fit.3; waits = a.waits.6; words = a.words.2 }

  vars_below : VarsFit (shapes_of (proc_at q c)) (copied_out xs y x)
  vars_below = low_fits q p c x y w xs cs fs v a.frames_fit

  returns : (at cc : ℕ) (u : Tally) → slice_get (code_of q p) at ≡ Some i.Ret → Goes (generated_view q sizes base) (Pt p at cc s fr u)
      (Pt c a.waits.0 cc s a.waits.1 (spend 4 1 u))
  returns at cc u h =
      let n = newest q c fs a.waits.1 a.waits.6 in
      go.returns q sizes base p (here a) fr (frame_with q p (Held c x w xs cs ∷ fs) c a.waits.0) a.waits.1 a.waits.2 at cc s u
      (frame_with q c fs n.program n.place) n.older h n.is

  -- behind the call
  behind : (num to : ℕ) (u : Tally) → slice_get
      ((a.waits.0 + 3) ∷ (a.waits.0 + 3) ∷ (a.waits.0 + 9 + 3 * length cs) ∷ (a.waits.0 + 6) ∷ raise_places (a.waits.0 + 9) cs) num ≡ Some to
      → Goes (generated_view q sizes base) (Pt c a.waits.0 num s a.waits.1 u)
      (Pt c to num (stack_of q c (copied_out xs y x) fs) a.waits.1 (spend 6 3 u))
  behind num to u e =
      let d = proc_at q p in
      let vs = words_of_values (drop (length d.formals) y) in
      let lo = stack_of q c (copied_out xs y x) fs in
      let l = local_words d in
      let r = a.waits.0 in
      let frs = a.waits.1 in
      let h = a.waits.4 in
      let b = below in
      let many : l ≡ length vs = sym (values_words (local_shapes d) (drop (length d.formals) y)
      (Rattle.gypsy_codegen.proofs.CopyLaws.vars_behind d.formals (local_shapes d) y v)) in
      let drops : drop l s ≡ lo = ap (drop l) es ∙ pushed_dropped vs lo l many in
      let enough : l ≤ length s = omega (arith, ap length es, push_all-length vs lo, many) in
      let free : length lo < sizes.temp = omega (arith, free_temp below (copied_out xs y x) lo refl vars_below) in
      let places = (r + 3) ∷ (r + 3) ∷ (r + 9 + 3 * length cs) ∷ (r + 6) ∷ raise_places (r + 9) cs in
      let one = subst (λ z. Goes (generated_view q sizes base) (Pt c r num s frs u) (Pt c (r + 1) num z frs (spend 1 1 u))) drops
      (go.pops_many q sizes base c (here below) frs _ _ (top below).is r num l s u h.0 enough) in
      let two = go.pushes_cc q sizes base c (here below) frs _ _ (top below).is (r + 1) num lo (spend 1 1 u) h.1.0 free in
      let tre = go.jumps_case q sizes base c (here below) frs _ _ (top below).is (r + 1 + 1) num num to places lo (spend 2 1 (spend 1 1 u)) h.1.1.0 e in
      lands_at _ c to to num lo frs _ _ refl (three 3 1 2 1 1 1 u) (steps_on one (steps_on two tre))

  -- the raise of spaceerror behind the call, and of the condition actuals
  space_at : HasAt (code_of q c) (a.waits.0 + 6)
      (raise_code q c (size q (body_of q c)) a.waits.3 Space ++ (raises q c (size q (body_of q c)) a.waits.3 cs ++ i.NoOp ∷ []))
  space_at =
      let nc = size q (body_of q c) in
      let env = a.waits.3 in
      has_back (code_of q c) (a.waits.0 + 1 + 1 + 1) (raise_code q c nc env Routine)
      (raise_code q c nc env Space ++ (raises q c nc env cs ++ i.NoOp ∷ [])) (a.waits.0 + 6) (omega arith) a.waits.4.1.1.1

  pub normal_leads : (at : ℕ) (u t : Tally) → u ≡ t → at ≡ size q (body_of q p) → Comes q (generated_view q sizes base) (Pt p at 2 s fr u)
      (At c (copied_out xs y x) (settle w) fs (spend 12 6 t))
  normal_leads at u t e f =
      let n = size q (body_of q p) in
      let jump = subst (λ j. slice_get (code_of q p) j ≡ Some (i.Jump (n + 3))) (sym f) (tail_at q p).0 in
      let r = a.waits.0 in
      let lo = stack_of q c (copied_out xs y x) fs in
      let code = code_of q c in
      let nc = size q (body_of q c) in
      let env = a.waits.3 in
      let to = r + 9 + 3 * length cs in
      let h = has_back code (r + 6) (raise_code q c nc env Space) (raises q c nc env cs ++ i.NoOp ∷ []) (r + 9) (omega arith) space_at in
      let pass = has_back code (r + 9) (raises q c nc env cs) (i.NoOp ∷ []) to (omega (arith, size_raises q c nc env cs)) h in
      let g : r + after_size cs ≡ to + 1 = omega arith in
      let d = ap (spend 1 1) (ap (spend 6 3) (spend_two 4 1 1 1 u) ∙ spend_two 6 3 5 2 u) ∙ spend_two 1 1 11 5 u ∙ ap (spend 12 6) e in
      comes_on (steps_on (jumps a at 2 (n + 3) s u jump)
      (steps_on (returns (n + 3) 2 (spend 1 1 u) (ret_at q p))
      (steps_on (behind 2 to (spend 4 1 (spend 1 1 u)) refl) (passes below to 2 lo (spend 6 3 (spend 4 1 (spend 1 1 u))) pass.0))))
      (lands below (copied_out xs y x) lo (to + 1) (settle w) _ (spend 12 6 t) refl d
      (settle_stands q c env (to + 1) w (moved q c env _ _ w g a.waits.5)))

  -- the raise behind the call, of routineerror
  routine_leads : (u t : Tally) → spend 10 6 u ≡ t → Comes q (generated_view q sizes base) (Pt c a.waits.0 1 s a.waits.1 u)
      (raise Routine c (copied_out xs y x) w fs t)
  routine_leads u t e =
      let r = a.waits.0 in
      let lo = stack_of q c (copied_out xs y x) fs in
      let nc = size q (body_of q c) in
      let f : r + 1 + 1 + 1 ≡ r + 3 = omega arith in
      let rest = raise_code q c nc a.waits.3 Space ++ (raises q c nc a.waits.3 cs ++ i.NoOp ∷ []) in
      let h = subst (λ j. HasAt (code_of q c) j (raise_code q c nc a.waits.3 Routine ++ rest)) f a.waits.4.1.1.1 in
      comes_on (behind 1 (r + 3) u refl) (raises_leads below (copied_out xs y x) lo refl vars_below Routine w a.waits.3 (r + 3) (r + after_size cs) 1
      rest _ t (spend_two 4 3 6 3 u ∙ e) h a.waits.5)

  -- the raise behind the call, of a condition actual
  actual_leads : (j : ℕ) (u t : Tally) → j < length cs → spend 10 6 u ≡ t → Comes q (generated_view q sizes base)
      (Pt c a.waits.0 (suc (suc (suc (suc j)))) s a.waits.1 u) (raise (get_or cs j Routine) c (copied_out xs y x) w fs t)
  actual_leads j u t l e =
      let r = a.waits.0 in
      let lo = stack_of q c (copied_out xs y x) fs in
      let nc = size q (body_of q c) in
      let env = a.waits.3 in
      let h = has_back (code_of q c) (r + 6) (raise_code q c nc env Space) (raises q c nc env cs ++ i.NoOp ∷ []) (r + 9) (omega arith) space_at in
      let b = raise_at (code_of q c) q c nc env cs j (r + 9) (i.NoOp ∷ []) h l in
      let d = get_or cs j Routine in
      comes_on (behind (suc (suc (suc (suc j)))) (r + 9 + 3 * j) u (place_at cs j (r + 9) l))
      (raises_leads below (copied_out xs y x) lo refl vars_below d w env (r + 9 + 3 * j) (r + after_size cs) (suc (suc (suc (suc j)))) b.0 _ t
      (spend_two 4 3 6 3 u ∙ e) b.1 a.waits.5)

  -- the same of spaceerror
  passed_leads : (u t : Tally) → spend 10 6 u ≡ t → Comes q (generated_view q sizes base) (Pt c a.waits.0 3 s a.waits.1 u)
      (raise Space c (copied_out xs y x) w fs t)
  passed_leads u t e =
      let r = a.waits.0 in
      let lo = stack_of q c (copied_out xs y x) fs in
      let rest = raises q c (size q (body_of q c)) a.waits.3 cs ++ i.NoOp ∷ [] in
      comes_on (behind 3 (r + 6) u refl) (raises_leads below (copied_out xs y x) lo refl vars_below Space w a.waits.3 (r + 6) (r + after_size cs) 3 rest
      _ t (spend_two 4 3 6 3 u ∙ e) space_at a.waits.5)

  -- L0, which makes the condition routineerror
  other_leads : (d : ConditionOf) (at : ℕ) (u t : Tally) → u ≡ t → at ≡ size q (body_of q p) + 1
      → Comes q (generated_view q sizes base) (Pt p at (number_of d) s fr u) (raise Routine c (copied_out xs y x) w fs (out_spend false t))
  other_leads d at u t e f =
      let free : length s < sizes.temp = omega (arith, free_temp a y s es v) in
      let n = size q (body_of q p) in
      let set = subst (λ j. HasAt (code_of q p) j (i.PushConstant (Nat 1) ∷ i.PopGlobal 0 ∷ i.Ret ∷ [])) (sym f) (tail_at q p).1 in
      let tally = ap (spend 10 6) (spend_two 4 1 3 2 u) ∙ spend_two 10 6 7 3 u ∙ ap (spend 17 9) e ∙ out_false t in
      comes_on (steps_on (sets_cc a at (number_of d) 1 s u (i.Ret ∷ []) set free) (returns (at + 1 + 1) 1 (spend 3 2 u) set.1.1.0))
      (routine_leads _ (out_spend false t) tally)

  formal_leads : (j at : ℕ) (u t : Tally) → u ≡ t → j < length cs → at ≡ size q (body_of q p) + 3
      → Comes q (generated_view q sizes base) (Pt p at (suc (suc (suc (suc j)))) s fr u)
      (raise (get_or cs j Routine) c (copied_out xs y x) w fs (out_spend true t))
  formal_leads j at u t e l f =
      let ret = subst (λ z. slice_get (code_of q p) z ≡ Some i.Ret) (sym f) (ret_at q p) in
      comes_on (returns at (suc (suc (suc (suc j)))) u ret) (actual_leads j _ (out_spend true t) l (spend_two 10 6 4 1 u ∙ ap (spend 14 7) e ∙ out_true t))

  space_out_leads : (at : ℕ) (u t : Tally) → u ≡ t → at ≡ size q (body_of q p) + 3
      → Comes q (generated_view q sizes base) (Pt p at 3 s fr u) (raise Space c (copied_out xs y x) w fs (out_spend true t))
  space_out_leads at u t e f =
      let ret = subst (λ z. slice_get (code_of q p) z ≡ Some i.Ret) (sym f) (ret_at q p) in
      comes_on (returns at 3 u ret) (passed_leads _ (out_spend true t) (spend_two 10 6 4 1 u ∙ ap (spend 14 7) e ∙ out_true t))

  named_leads : (j : ℕ) (b : Bool) (at : ℕ) (u t : Tally) → u ≡ t → nat_lt j (proc_at q p).conds ≡ b
      → at ≡ (if b then size q (body_of q p) + 3 else size q (body_of q p) + 1) → Comes q (generated_view q sizes base)
      (Pt p at (suc (suc (suc (suc j)))) s fr u) (raise (if b then get_or cs j Routine else Routine) c (copied_out xs y x) w fs (out_spend b t))
  named_leads j true at u t e g f =
      let l : j < length cs = omega (arith, ltb-true j (proc_at q p).conds g, a.frames_fit.0.number) in
      formal_leads j at u t e l f
  named_leads j false at u t e g f = other_leads (Declared j) at u t e f

  pub out_leads : (d : ConditionOf) (at : ℕ) (u t : Tally) → u ≡ t → at ≡ out_place q p (size q (body_of q p)) d
      → Comes q (generated_view q sizes base) (Pt p at (number_of d) s fr u)
      (raise (matching q p cs d) c (copied_out xs y x) w fs (out_spend (is_passed_on q p d) t))
  unfolding is_passed_on matching
  out_leads Leave at u t e f = other_leads Leave at u t e f
  out_leads Routine at u t e f = other_leads Routine at u t e f
  out_leads Space at u t e f = space_out_leads at u t e f
  out_leads (Declared j) at u t e f = named_leads j (nat_lt j (proc_at q p).conds) at u t e refl f

-- The end of main.

pub values-split : (x y : List ValueOf) → words_of_values (x ++ y) ≡ words_of_values x ++ words_of_values y
values-split [] y = refl
values-split (v ∷ x) y =
    ap (λ l. Rattle.gypsy_predef.specs.Runs.words_of_value v ++ l) (values-split x y)
    ∙ sym (Rattle.std.proofs.Common.append_assoc (Rattle.gypsy_predef.specs.Runs.words_of_value v) (words_of_values x) (words_of_values y))

main_stack : (q : Program) (p : ℕ) (x : List ValueOf) → stack_of q p x [] ≡ reverse
    (words_of_values (main_formals q x) ++ words_of_values (drop (length (proc_at q q.main).formals) x))
unfolding main_formals
main_stack q p x =
    let k = length (proc_at q q.main).formals in
    pushed_reverse (words_of_values x) []
    ∙ append-nil (reverse (words_of_values x))
    ∙ ap (λ l. reverse l) (ap words_of_values (sym (take-append-drop k x)) ∙ values-split (take k x) (drop k x))

main_true : (t : Tally) → spend 4 1 t ≡ main_spend true t
unfolding main_spend
main_true t = refl

main_false : (t : Tally) → spend 7 3 t ≡ main_spend false t
unfolding main_spend
main_false t = refl

module _ {q : Program} {sizes : StackSizes} {base p : ℕ} {fr : List piton.Frame} (a : Live q sizes base p [] fr) (x : List ValueOf) (s : List Word)
    (es : s ≡ stack_of q p x []) (v : VarsFit (shapes_of (proc_at q p)) x) where
  halts_at : (c : CurrentCondition) (r : ℕ) (b : P) (u t : Tally) → Goes (generated_view q sizes base) b (Pt p r (number_of_way c) s fr u)
      → spend 4 1 u ≡ t → slice_get (code_of q p) r ≡ Some i.Ret → Halts (generated_view q sizes base) (state b) (spent b) (main_formals q x) c t
  halts_at c r b u t st e h =
      let g = steps_on st (go.halts q sizes base p (here a) fr (frame_with q p [] a.waits.0 a.waits.1) [] a.waits.2 r (number_of_way c) s u h refl) in
      record {
        steps = g.steps;
        cost = g.cost;
        to = state (Pt p r (number_of_way c) s [] (spend 4 1 u));
        runs = g.runs;
        tally = sym e ∙ g.tally;
        halted = refl;
        condition = refl;
        locals = words_of_values (drop (length (proc_at q q.main).formals) x);
        stack = es ∙ main_stack q p x;
      }

  pub end_halts : (at : ℕ) (u t : Tally) → u ≡ t → at ≡ size q (body_of q p) → Halts (generated_view q sizes base) (state (Pt p at 2 s fr u)) u
      (main_formals q x) None (spend 5 2 t)
  end_halts at u t e f =
      let n = size q (body_of q p) in
      let jump = subst (λ j. slice_get (code_of q p) j ≡ Some (i.Jump (n + 3))) (sym f) (tail_at q p).0 in
      halts_at None (n + 3) (Pt p at 2 s fr u) (spend 1 1 u) (spend 5 2 t) (jumps a at 2 (n + 3) s u jump) (spend_two 4 1 1 1 u ∙ ap (spend 5 2) e) (ret_at q p)

  main_out : (b : Bool) (d : ConditionOf) (at : ℕ) (u t : Tally) → u ≡ t → at ≡ (if b then size q (body_of q p) + 3 else size q (body_of q p) + 1)
      → Halts (generated_view q sizes base) (state (Pt p at (number_of d) s fr u)) u (main_formals q x) (Some (if b then d else Routine))
      (main_spend b t)
  main_out true d at u t e f =
      let ret = subst (λ j. slice_get (code_of q p) j ≡ Some i.Ret) (sym f) (ret_at q p) in
      halts_at (Some d) at (Pt p at (number_of d) s fr u) u (main_spend true t) (stay _) (ap (spend 4 1) e ∙ main_true t) ret
  main_out false d at u t e f =
      let free : length s < sizes.temp = omega (arith, free_temp a x s es v) in
      let n = size q (body_of q p) in
      let set = subst (λ j. HasAt (code_of q p) j (i.PushConstant (Nat 1) ∷ i.PopGlobal 0 ∷ i.Ret ∷ [])) (sym f) (tail_at q p).1 in
      halts_at (Some Routine) (at + 1 + 1) (Pt p at (number_of d) s fr u) (spend 3 2 u) (main_spend false t)
      (sets_cc a at (number_of d) 1 s u (i.Ret ∷ []) set free) (spend_two 4 1 3 2 u ∙ ap (spend 7 3) e ∙ main_false t) set.1.1.0

  pub out_halts : (d : ConditionOf) (at : ℕ) (u t : Tally) → u ≡ t → at ≡ out_place q p (size q (body_of q p)) d
      → Halts (generated_view q sizes base) (state (Pt p at (number_of d) s fr u)) u (main_formals q x) (Some (main_way q d))
      (main_spend (is_passed_on q q.main d) t)
  unfolding main_way
  out_halts d at u t e f =
      let n = size q (body_of q p) in
      main_out (is_passed_on q q.main d) d at u t e (f ∙ ap (λ (z : ℕ). if is_passed_on q z d then n + 3 else n + 1) a.frames_fit)
