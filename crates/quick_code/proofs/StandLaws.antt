-- Runs between machines that stand: how they begin, continue and end.
use Rattle.std.proofs.Common.{◌≡◌, ◌≢◌, ℕ, ◌+◌, ◌<◌, ◌≤◌, ◌==◌, false, Ok, List, ◌++◌, length, refl, ap, ◌∙◌, subst, arith, length-append}
use Rattle.std.{specs.Prelude.{reverse, slice_index}, proofs.lemmas.Bool.Decides.nat_tests}
use Rattle.fm_machine.{specs.State.Fm, proofs.RunLaws.{run_none, avoids_none, run_then, avoids_then}}
use Rattle.fm_code.{specs.Execution.{Parts, AreParts, CodeAt, final_pc}, proofs.CodeLaws.{code_front, code_after}, proofs.RegisterLaws.{sixteen_are, index_of}}
use Rattle.fm_code.{proofs.RegisterLaws.with_register, proofs.OperandLaws.{RunsTo, state_of}}
use Rattle.quick_code.specs.Moments.{Now, Stands, Comes, Does, Jumps}

-- a run within one piece: its registers as a function, of which 3, 15 and those of the table are known
pub record At (P : Parts) (table : ℕ → ℕ) (ctrl : List ℕ) (n : ℕ) (s : Fm) (pc : ℕ) (a : Now) : Type 0 where
  pub r : ℕ → ℕ
  pub run : RunsTo P n s r a.fl ctrl (reverse a.vars) a.areas
  pub held : (k : ℕ) → 5 ≤ k → k < 15 → r k ≡ table k
  pub r3_is : r 3 ≡ a.x3
  pub r15_is : r 15 ≡ pc

pub other : (r : ℕ → ℕ) (j v k : ℕ) → k ≢ j → with_register r j v k ≡ r k
other r j v k h = let e : (k == j) ≡ false = grind (arith, nat_tests) in rw e refl

pub begins : {P : Parts} {table : ℕ → ℕ} {ctrl : List ℕ} {s : Fm} {pc : ℕ} {a : Now} → AreParts P → Stands P table ctrl s pc a
    → At P table ctrl 0 s pc a
begins {P} {s = s} {a = a} is h =
    let b = h.base_is in
    let f = h.flags_are in
    let rs = sixteen_are s.registers h.sixteen in
    record {
      r = slice_index s.registers;
      run = record {
        m = s.memory;
        is = is;
        runs = run_none s ∙ ap Ok (λ i. record { base = b i; registers = rs i; flags = f i; memory = s.memory });
        avoids = avoids_none s (final_pc P);
        laid = h.laid;
      };
      held = h.held;
      r3_is = h.r3_is;
      r15_is = h.r15_is;
    }

pub comes : {P : Parts} {table : ℕ → ℕ} {ctrl : List ℕ} {n : ℕ} {s : Fm} {pc : ℕ} {a : Now} → At P table ctrl n s pc a
    → Comes P table ctrl n s pc a
comes {P} {a = a} h =
    record {
      state = state_of P.base h.r a.fl h.run.m;
      runs = h.run.runs;
      avoids = h.run.avoids;
      stands = record {
        base_is = refl;
        sixteen = refl;
        flags_are = refl;
        r3_is = h.r3_is;
        r15_is = h.r15_is;
        held = λ k low high. index_of k h.r (omega arith) ∙ h.held k low high;
        laid = h.run.laid;
      };
    }

-- a run after a run
pub comes_then : {P : Parts} {table : ℕ → ℕ} {ctrl : List ℕ} {j k : ℕ} {s : Fm} {pc pc' : ℕ} {a b : Now} (h : Comes P table ctrl j s pc a)
    → Comes P table ctrl k h.state pc' b → Comes P table ctrl (j + k) s pc' b
comes_then {P} {j = j} {k = k} {s = s} h g =
    record {
      state = g.state;
      runs = run_then j k s h.state g.state h.runs g.runs;
      avoids = avoids_then s h.state (final_pc P) j k h.runs h.avoids g.avoids;
      stands = g.stands;
    }

pub comes_at_once : {P : Parts} {table : ℕ → ℕ} {ctrl : List ℕ} {s : Fm} {pc : ℕ} {a : Now} → Stands P table ctrl s pc a → Comes P table ctrl 0 s pc a
comes_at_once {P} {s = s} h = record { state = s; runs = run_none s; avoids = avoids_none s (final_pc P); stands = h }

-- the count and the pc of a run written another way
pub comes_as : {P : Parts} {table : ℕ → ℕ} {ctrl : List ℕ} {j k : ℕ} {s : Fm} {pc pc' : ℕ} {a : Now} → Comes P table ctrl j s pc a → j ≡ k → pc ≡ pc'
    → Comes P table ctrl k s pc' a
comes_as {P} {table} {ctrl} {j} {k} {s} {pc} {pc'} {a} h e e' =
    subst (λ i. Comes P table ctrl i s pc' a) e (subst (λ p. Comes P table ctrl j s p a) e' h)

-- code before code
pub does_then : {P : Parts} {table : ℕ → ℕ} {one two : List ℕ} {j k : ℕ} {a b c : Now} → Does P table one j a b → Does P table two k b c
    → Does P table (one ++ two) (j + k) a c
does_then {P} {one = one} {two = two} h g =
    record {
      leads = λ ctrl s pc is stands code.
          let first = h.leads ctrl s pc is stands (code_front P pc one two code) in
          let second = g.leads ctrl first.state (pc + length one) is first.stands (code_after P pc one two code) in
          comes_as (comes_then first second) refl (omega (arith, length-append one two));
    }

pub jumps_then : {P : Parts} {table : ℕ → ℕ} {one two : List ℕ} {j k target : ℕ} {a b c : Now} → Does P table one j a b
    → Jumps P table two k b target c → Jumps P table (one ++ two) (j + k) a target c
jumps_then {P} {one = one} {two = two} h g =
    record {
      leads = λ ctrl s pc is stands code.
          let first = h.leads ctrl s pc is stands (code_front P pc one two code) in
          comes_then first (g.leads ctrl first.state (pc + length one) is first.stands (code_after P pc one two code));
    }

-- what stands behind a jump isn't run
pub jumps_over : {P : Parts} {table : ℕ → ℕ} {one : List ℕ} (two : List ℕ) {k target : ℕ} {a b : Now} → Jumps P table one k a target b
    → Jumps P table (one ++ two) k a target b
jumps_over {P} {one = one} two h =
    record { leads = λ ctrl s pc is stands code. h.leads ctrl s pc is stands (code_front P pc one two code) }

-- laws of runs say what code does
pub does : {P : Parts} {table : ℕ → ℕ} {code : List ℕ} {k : ℕ} {a b : Now}
    → ((ctrl : List ℕ) (s : Fm) (pc : ℕ) → At P table ctrl 0 s pc a → CodeAt P pc code → At P table ctrl k s (pc + length code) b)
    → Does P table code k a b
does law = record { leads = λ ctrl s pc is stands code. comes (law ctrl s pc (begins is stands) code) }

pub jumps : {P : Parts} {table : ℕ → ℕ} {code : List ℕ} {k target : ℕ} {a b : Now}
    → ((ctrl : List ℕ) (s : Fm) (pc : ℕ) → At P table ctrl 0 s pc a → CodeAt P pc code → At P table ctrl k s target b)
    → Jumps P table code k a target b
jumps law = record { leads = λ ctrl s pc is stands code. comes (law ctrl s pc (begins is stands) code) }
