-- Runs between views of the machine: how they begin, continue and end.
use Rattle.std.{proofs.Common.{◌≡◌, ℕ, ◌+◌, Ok, List, length, refl, ap, ◌∙◌, subst, arith}, specs.Prelude.slice_index}
use Rattle.fm_words.specs.declared.condition.Flags.{Flags}
use Rattle.fm_machine.{specs.State.Fm, proofs.RunLaws.{run_none, avoids_none, run_then, avoids_then}}
use Rattle.fm_code.{specs.Execution.{Parts, AreParts, HasView, Arrives, View, view, Executes, CodeAt, final_pc}, proofs.RegisterLaws.sixteen_are}
use Rattle.fm_code.proofs.OperandLaws.{RunsTo, state_of}

-- After n steps from s the machine has f in r0 and pc in r15, and these words on both stacks and in the areas, whatever
-- its other registers and its flags are. Before that its pc was never the final one.
pub record RunsToView (P : Parts) (n : ℕ) (s : Fm) (f pc : ℕ) (ctrl temp areas : List ℕ) : Type 0 where
  pub r : ℕ → ℕ
  pub fl : Flags
  pub run : RunsTo P n s r fl ctrl temp areas
  pub r0_is : r 0 ≡ f
  pub r15_is : r 15 ≡ pc

-- a run of no step, from a state with this view
pub run_begins : {P : Parts} {s : Fm} {f pc : ℕ} {ctrl temp areas : List ℕ} → AreParts P → HasView P s (view f pc ctrl temp areas)
    → RunsToView P 0 s f pc ctrl temp areas
run_begins {P} {s} is h =
    let b = h.base_is in
    let rs = sixteen_are s.registers h.sixteen in
    record {
      r = slice_index s.registers;
      fl = s.flags;
      run = record {
        m = s.memory;
        is = is;
        runs = run_none s ∙ ap Ok (λ i. record { base = b i; registers = rs i; flags = s.flags; memory = s.memory });
        avoids = avoids_none s (final_pc P);
        laid = h.laid;
      };
      r0_is = h.r0_is;
      r15_is = h.r15_is;
    }

-- the state that a run is at
pub arrives : {P : Parts} {n : ℕ} {s : Fm} {f pc : ℕ} {ctrl temp areas : List ℕ} → RunsToView P n s f pc ctrl temp areas
    → Arrives P n s (view f pc ctrl temp areas)
arrives {P} h =
    record {
      state = state_of P.base h.r h.fl h.run.m;
      runs = h.run.runs;
      avoids = h.run.avoids;
      laid = record { base_is = refl; sixteen = refl; r0_is = h.r0_is; r15_is = h.r15_is; laid = h.run.laid };
    }

-- a law of runs says what code executes
pub executes : {P : Parts} {code : List ℕ} {n n' f pc : ℕ} {ctrl temp areas : List ℕ} {u : View}
    → ((s : Fm) → RunsToView P 0 s f pc ctrl temp areas → CodeAt P pc code → RunsToView P n' s u.frame u.pc u.ctrl u.temp u.areas) → n' ≡ n
    → Executes P code n (view f pc ctrl temp areas) u
executes {P} {u = u} law e =
    record { leads = λ s is laid words. subst (λ k. Arrives P k s u) e (arrives (law s (run_begins is laid) words)) }

-- a run after a run
pub arrives_then : {P : Parts} {j k : ℕ} {s : Fm} {t u : View} (h : Arrives P j s t) → Arrives P k h.state u → Arrives P (j + k) s u
arrives_then {P} {j} {k} {s} h g =
    record {
      state = g.state;
      runs = run_then j k s h.state g.state h.runs g.runs;
      avoids = avoids_then s h.state (final_pc P) j k h.runs h.avoids g.avoids;
      laid = g.laid;
    }

-- a run of no step
pub arrives_at_once : {P : Parts} {s : Fm} {t : View} → HasView P s t → Arrives P 0 s t
arrives_at_once {P} {s} h = record { state = s; runs = run_none s; avoids = avoids_none s (final_pc P); laid = h }

-- a run of which only registers 0 and 15 are kept
pub runs_to_view : {P : Parts} {n n' : ℕ} {s : Fm} {r : ℕ → ℕ} {fl : Flags} {f pc : ℕ} {ctrl temp areas : List ℕ} → RunsTo P n s r fl ctrl temp areas
    → n ≡ n' → r 0 ≡ f → r 15 ≡ pc → RunsToView P n' s f pc ctrl temp areas
runs_to_view {P} {s = s} {r = r} {fl = fl} {ctrl = ctrl} {temp = temp} {areas = areas} c e e0 e15 =
    record { r = r; fl = fl; run = subst (λ k. RunsTo P k s r fl ctrl temp areas) e c; r0_is = e0; r15_is = e15 }

-- a run with its count, its pc or its words written another way
pub with_count : {P : Parts} {n n' : ℕ} {s : Fm} {f pc pc' : ℕ} {ctrl temp areas : List ℕ} → RunsToView P n s f pc ctrl temp areas → n ≡ n' → pc ≡ pc'
    → RunsToView P n' s f pc' ctrl temp areas
with_count h e e' = runs_to_view h.run e h.r0_is (h.r15_is ∙ e')

pub with_ctrl : {P : Parts} {n : ℕ} {s : Fm} {f pc : ℕ} {ctrl ctrl' temp areas : List ℕ} → RunsToView P n s f pc ctrl temp areas → ctrl ≡ ctrl'
    → RunsToView P n s f pc ctrl' temp areas
with_ctrl {P} {n} {s} {f} {pc} {temp = temp} {areas = areas} h e =
    subst (λ ws. RunsToView P n s f pc ws temp areas) e h

pub with_temp : {P : Parts} {n : ℕ} {s : Fm} {f pc : ℕ} {ctrl temp temp' areas : List ℕ} → RunsToView P n s f pc ctrl temp areas → temp ≡ temp'
    → RunsToView P n s f pc ctrl temp' areas
with_temp {P} {n} {s} {f} {pc} {ctrl} {areas = areas} h e =
    subst (λ ws. RunsToView P n s f pc ctrl ws areas) e h

module _ {P : Parts} {n : ℕ} {s : Fm} {f pc : ℕ} {ctrl temp areas : List ℕ} where
  -- r1 is the first address of the control stack
  pub ctrl_top : (h : RunsToView P n s f pc ctrl temp areas) → f + length ctrl ≡ P.temp_at → h.r 1 ≡ f
  ctrl_top h e = let laid = h.run.laid in omega arith
