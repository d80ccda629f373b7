-- A call that has room fits in both stacks.
use Rattle.std.{proofs.Common.{◌≡◌, ℕ, ◌+◌, ◌≤◌, ◌<◌, length, true, ap, ◌∙◌, arith}, proofs.lemmas.Bool.{and_parts, leb-true}, proofs.lemmas.List.length-map}
use Rattle.gypsy_syntax.specs.Programs.{Program, proc_at}
use Rattle.gypsy_space.{specs.Needs.{StackSizes, call_need, frame_of, has_ctrl_room, has_room, has_temp_room, local_words, with_call}, specs.Nodes.seen_proc}
use Rattle.gypsy_space.{specs.Events.{need_at, need_of}, specs.declared.need.Need.Need}
use Rattle.quick_generate.{specs.declared.calls.Activation.Activation, specs.declared.calls.Calls.Calls, specs.LinedViews.{IsTable, called_program, sizes_of}}
use Rattle.quick_generate.specs.LinedViews.{used_in}

pub fits_both : (q : Program) (sizes : StackSizes) (p : ℕ) (u : StackSizes) → has_room q sizes p u ≡ true
    → (u.temp + local_words (proc_at q p) ≤ sizes.temp) × (u.ctrl + frame_of (proc_at q p) ≤ sizes.ctrl)
unfolding has_room call_need
fits_both q sizes p u e =
    let h = and_parts (has_temp_room q sizes p u) (has_ctrl_room q sizes p u) e in
    let temp = leb-true (u.temp + (call_need q p).temp) sizes.temp h.0 in
    let ctrl = leb-true (u.ctrl + (call_need q p).ctrl) sizes.ctrl h.1 in
    (omega (arith, temp), omega (arith, ctrl))

-- what is looked up is what the callee needs
module _ (calls : Calls) (callee : ℕ) (table : IsTable calls) (there : callee < length calls.program.now.procedures.items) where
  pub is_need : (n : Need) → n ≡ need_at calls.needs.now.procedures.items callee → n ≡ need_of (called_program calls) callee
  is_need n is = is ∙ table.needs.each callee (omega (arith, there, length-map calls.program.now.procedures.items seen_proc))

  pub used_then : (a : Activation) (ctrl temp left : ℕ) (n : Need) → n ≡ need_at calls.needs.now.procedures.items callee
      → ctrl ≡ a.ctrl + (2 + n.vars) → temp ≡ a.temp + n.locals_words
      → used_in record { ctrl = ctrl; temp = temp; calls = left } ≡ with_call (called_program calls) callee (used_in a)
  unfolding with_call
  used_then a ctrl temp left n is e f =
      let need = is_need n is in
      λ i. record {
        temp = (f ∙ ap (λ (m : Need). a.temp + m.locals_words) need) i;
        ctrl = (e ∙ ap (λ (m : Need). a.ctrl + (2 + m.vars)) need) i;
      }

  pub call_fits : (a : Activation) (n : Need) → n ≡ need_at calls.needs.now.procedures.items callee
      → has_room (called_program calls) (sizes_of calls) callee (used_in a) ≡ true
      → (a.temp + n.locals_words ≤ calls.temp) × (a.ctrl + (2 + n.vars) ≤ calls.ctrl)
  call_fits a n is room =
      let need = is_need n is in
      let h = fits_both (called_program calls) (sizes_of calls) callee (used_in a) room in
      (omega (arith, ap (λ (m : Need). m.locals_words) need, h.0), omega (arith, ap (λ (m : Need). m.vars) need, h.1))
