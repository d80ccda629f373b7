-- How a piece reaches the word of a variable.
use Rattle.std.{proofs.Common.{◌≡◌, ℕ, ◌+◌, ◌-◌, ◌<◌, ◌≤◌, Some, List, length, refl, ◌∙◌, subst, arith}, specs.Prelude.{reverse, slice_get}}
use Rattle.std.{proofs.lemmas.List.length-reverse, proofs.lemmas.Option.slice_get_within}
use Rattle.fm_words.{specs.declared.operation.Op.TheVariants.Move, specs.declared.condition.Flags.Flags, specs.Code.no_flags}
use Rattle.fm_machine.specs.State.{Fm, word_at}
use Rattle.fm_code.{specs.Execution.{Parts, CodeAt}, specs.InstructionWords.at, proofs.HoldsLaws.Holds-get, proofs.RegisterLaws.{with_register, next}}
use Rattle.fm_code.proofs.OperandLaws.{RunsTo, ReadsOperand, from_literal, from_address}
use Rattle.fm_code.proofs.TargetLaws as target
use Rattle.quick_code.{specs.Access.{Access, Held, Known, Reaches, register_of, find_code, find_count}, specs.Moments.Now, proofs.StackLaws.from_bottom}
use Rattle.quick_code.proofs.StandLaws.{At, other}

-- a register of the table, or one from 4 on, where another below it and the pc are set
pub untouched : (r : ℕ → ℕ) (p j v k : ℕ) → 5 ≤ k → k < 15 → j < 5 → with_register (with_register r 15 p) j v k ≡ r k
untouched r p j v k low high h = other (with_register r 15 p) j v k (omega arith) ∙ other r 15 p k (omega arith)

-- a run whose flags, words, count and pc are written another way
pub at_of : {P : Parts} {table : ℕ → ℕ} {ctrl : List ℕ} {n n' : ℕ} {s : Fm} {pc : ℕ} {r : ℕ → ℕ} {fl : Flags} {temp areas : List ℕ} (a : Now)
    → RunsTo P n s r fl ctrl temp areas → n ≡ n' → fl ≡ a.fl → temp ≡ reverse a.vars → areas ≡ a.areas
    → ((k : ℕ) → 5 ≤ k → k < 15 → r k ≡ table k) → r 3 ≡ a.x3 → r 15 ≡ pc → At P table ctrl n' s pc a
at_of {P} {table} {ctrl} {n} {n'} {s} {pc} {r} {fl} {temp} {areas} a c en ef et ea held e3 e15 =
    let c1 = subst (λ i. RunsTo P i s r fl ctrl temp areas) en c in
    let c2 = subst (λ f. RunsTo P n' s r f ctrl temp areas) ef c1 in
    let c3 = subst (λ t. RunsTo P n' s r a.fl ctrl t areas) et c2 in
    record { r = r; run = subst (λ t. RunsTo P n' s r a.fl ctrl (reverse a.vars) t) ea c3; held = held; r3_is = e3; r15_is = e15 }

-- a run where the address of a variable's word is in its register, and r0 is as before
pub record Found (P : Parts) (table : ℕ → ℕ) (ctrl : List ℕ) (n : ℕ) (s : Fm) (pc : ℕ) (a : Now) (x : Access) (d x0 : ℕ) : Type 0 where
  pub here : At P table ctrl n s pc a
  pub address_is : here.r (register_of x) ≡ d
  pub r0_is : here.r 0 ≡ x0
  pub low : 4 ≤ register_of x
  pub high : register_of x < 15

pub find : {P : Parts} {table : ℕ → ℕ} {ctrl : List ℕ} {n : ℕ} {s : Fm} {pc : ℕ} {a : Now} (x : Access) (d : ℕ) → Reaches table x d
    → (c : At P table ctrl n s pc a) → CodeAt P pc (find_code x) → Found P table ctrl (n + find_count x) s (pc + length (find_code x)) a x d (c.r 0)
unfolding at_of
find {P} {a = a} (Held k) d h c code =
    let e : c.r 15 ≡ _ = c.r15_is in
    record {
      here = at_of a c.run (omega arith) refl refl refl c.held c.r3_is (omega (arith, c.r15_is));
      address_is = c.held k h.0 h.1 ∙ h.2;
      r0_is = refl;
      low = omega (arith, h.0);
      high = h.1;
    }
find {P} {a = a} (Known b) d h c code =
    let words = rw (← c.r15_is) at code in
    let c1 = target.into_r4 Move no_flags c.run (from_literal c.run words.1.0) words.0 in
    record {
      here = at_of a c1 refl refl refl refl (λ k low high. untouched c.r (c.r 15 + 1 + 1) 4 b k low high (omega arith) ∙ c.held k low high) c.r3_is
          (omega (arith, c.r15_is));
      address_is = h;
      r0_is = refl;
      low = omega arith;
      high = omega arith;
    }

-- the word of a variable as an operand
pub reads : {P : Parts} {table : ℕ → ℕ} {ctrl : List ℕ} {n : ℕ} {s : Fm} {pc : ℕ} {a : Now} (k i w : ℕ) (c : At P table ctrl n s pc a)
    → c.r k ≡ P.end - 1 - i → k < 15 → slice_get a.vars i ≡ Some w
    → ReadsOperand P c.run.m c.r a.fl a.areas (at k) w (next c.r) ctrl (reverse a.vars)
reads {P} {a = a} k i w c e high there =
    let within = slice_get_within a.vars i w there in
    let laid = c.run.laid in
    let q = length a.vars - 1 - i in
    let d : c.r 2 + q ≡ P.end - 1 - i = omega (arith, length-reverse a.vars, laid.temp_end, within) in
    let read = Holds-get P.base c.run.m (c.r 2) q w (reverse a.vars) (from_bottom a.vars i w there) laid.temp_at in
    from_address k (P.end - 1 - i) c.run (omega (arith, high)) (other c.r 15 (c.r 15 + 1) k (omega (arith, high)) ∙ e)
    (subst (λ z. word_at P.base c.run.m z ≡ Some w) d read)
