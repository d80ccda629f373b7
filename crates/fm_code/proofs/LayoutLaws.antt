-- A window as code, areas, control stack and temporary stack.
use Rattle.std.{proofs.Common.{◌≡◌, ℕ, ◌+◌, ◌<◌, ◌≤◌, List, [], ◌∷◌, ◌++◌, length, sym, subst, arith, length-append}, specs.Prelude.slice_set}
use Rattle.std.proofs.lemmas.List.{length-set}
use Rattle.fm_machine.{specs.State.with_word, proofs.WindowLaws.{word_at-same, length-with_word, some_word}}
use Rattle.fm_code.{specs.Execution.{Holds, Parts, AreParts, IsLaidOut, code_words}, specs.InstructionWords.halt_word, proofs.HoldsLaws.Holds-store_below}
use Rattle.fm_code.proofs.HoldsLaws.{Holds-store_above, Holds-store}

module _ (P : Parts) (is : AreParts P) (m : List ℕ) (c t : ℕ) (ctrl temp areas : List ℕ) (laid : IsLaidOut P m c t ctrl temp areas) where
  -- what a store above the areas leaves unchanged
  below_ctrl : (a w : ℕ) → P.ctrl_at ≤ a → (Holds P.base (with_word P.base m a w) P.base (code_words P))
      × Holds P.base (with_word P.base m a w) P.areas_at areas
  below_ctrl a w h = (
    Holds-store_above P.base m a w P.base (code_words P) (omega arith) (omega (arith, length-append P.code (halt_word ∷ []))) laid.code,
    Holds-store_above P.base m a w P.areas_at areas (omega arith) (omega arith) laid.areas_at,
  )

  -- a word pushed on the temporary stack
  pub laid_push : (t1 v : ℕ) → t1 + 1 ≡ t → P.temp_at ≤ t1 → IsLaidOut P (with_word P.base m t1 v) c t1 ctrl (v ∷ temp) areas
  laid_push t1 v e room =
      let s = length-with_word P.base m t1 v in
      let a : P.base ≤ t1 = omega arith in
      let a' : t1 < P.base + length m = omega arith in
      let old = some_word P.base m t1 a a' in
      let kept = below_ctrl t1 v (omega arith) in
      let h = subst (λ n. Holds P.base m n temp) (sym e) laid.temp_at in
      record {
        size = omega arith;
        code = kept.0;
        areas_at = kept.1;
        ctrl_at = Holds-store_above P.base m t1 v c ctrl (omega arith) (omega arith) laid.ctrl_at;
        temp_at = (word_at-same P.base m t1 v old.0 old.1, Holds-store_below P.base m t1 v (t1 + 1) temp a (omega arith) h);
        areas_fit = laid.areas_fit;
        ctrl_fits = laid.ctrl_fits;
        ctrl_end = laid.ctrl_end;
        temp_fits = room;
        temp_end = omega arith;
      }

  -- a word pushed on the control stack
  pub laid_push_ctrl : (c1 v : ℕ) → c1 + 1 ≡ c → P.ctrl_at ≤ c1 → IsLaidOut P (with_word P.base m c1 v) c1 t (v ∷ ctrl) temp areas
  laid_push_ctrl c1 v e room =
      let s = length-with_word P.base m c1 v in
      let a : P.base ≤ c1 = omega arith in
      let a' : c1 < P.base + length m = omega arith in
      let old = some_word P.base m c1 a a' in
      let kept = below_ctrl c1 v room in
      let h = subst (λ n. Holds P.base m n ctrl) (sym e) laid.ctrl_at in
      record {
        size = omega arith;
        code = kept.0;
        areas_at = kept.1;
        ctrl_at = (word_at-same P.base m c1 v old.0 old.1, Holds-store_below P.base m c1 v (c1 + 1) ctrl a (omega arith) h);
        temp_at = Holds-store_below P.base m c1 v t temp a (omega arith) laid.temp_at;
        areas_fit = laid.areas_fit;
        ctrl_fits = room;
        ctrl_end = omega arith;
        temp_fits = laid.temp_fits;
        temp_end = laid.temp_end;
      }

  -- a word of the temporary stack, of the control stack or of the areas set
  pub laid_temp : (a k v : ℕ) → a ≡ t + k → k < length temp → IsLaidOut P (with_word P.base m a v) c t ctrl (slice_set temp k v) areas
  laid_temp a k v e q =
      let s = length-with_word P.base m a v in
      let n = length-set temp k v in
      let kept = below_ctrl a v (omega arith) in
      record {
        size = omega arith;
        code = kept.0;
        areas_at = kept.1;
        ctrl_at = Holds-store_above P.base m a v c ctrl (omega arith) (omega arith) laid.ctrl_at;
        temp_at = Holds-store P.base m k v t a temp e (omega arith) q laid.temp_at;
        areas_fit = laid.areas_fit;
        ctrl_fits = laid.ctrl_fits;
        ctrl_end = laid.ctrl_end;
        temp_fits = laid.temp_fits;
        temp_end = omega arith;
      }

  pub laid_ctrl : (a k v : ℕ) → a ≡ c + k → k < length ctrl → IsLaidOut P (with_word P.base m a v) c t (slice_set ctrl k v) temp areas
  laid_ctrl a k v e q =
      let s = length-with_word P.base m a v in
      let n = length-set ctrl k v in
      let kept = below_ctrl a v (omega arith) in
      record {
        size = omega arith;
        code = kept.0;
        areas_at = kept.1;
        ctrl_at = Holds-store P.base m k v c a ctrl e (omega arith) q laid.ctrl_at;
        temp_at = Holds-store_below P.base m a v t temp (omega arith) (omega arith) laid.temp_at;
        areas_fit = laid.areas_fit;
        ctrl_fits = laid.ctrl_fits;
        ctrl_end = omega arith;
        temp_fits = laid.temp_fits;
        temp_end = laid.temp_end;
      }

  pub laid_areas : (a k v : ℕ) → a ≡ P.areas_at + k → k < length areas → IsLaidOut P (with_word P.base m a v) c t ctrl temp (slice_set areas k v)
  laid_areas a k v e q =
      let s = length-with_word P.base m a v in
      let n = length-set areas k v in
      let i : P.base ≤ a = omega arith in
      record {
        size = omega arith;
        code = Holds-store_above P.base m a v P.base (code_words P) (omega arith) (omega (arith, length-append P.code (halt_word ∷ []))) laid.code;
        areas_at = Holds-store P.base m k v P.areas_at a areas e (omega arith) q laid.areas_at;
        ctrl_at = Holds-store_below P.base m a v c ctrl i (omega arith) laid.ctrl_at;
        temp_at = Holds-store_below P.base m a v t temp i (omega arith) laid.temp_at;
        areas_fit = omega arith;
        ctrl_fits = laid.ctrl_fits;
        ctrl_end = laid.ctrl_end;
        temp_fits = laid.temp_fits;
        temp_end = laid.temp_end;
      }

-- the top of a stack dropped
pub laid_pop : (P : Parts) (m : List ℕ) (c t x : ℕ) (ctrl temp areas : List ℕ) → IsLaidOut P m c t ctrl (x ∷ temp) areas
    → IsLaidOut P m c (t + 1) ctrl temp areas
laid_pop P m c t x ctrl temp areas laid =
    record {
      size = laid.size;
      code = laid.code;
      areas_at = laid.areas_at;
      ctrl_at = laid.ctrl_at;
      temp_at = laid.temp_at.1;
      areas_fit = laid.areas_fit;
      ctrl_fits = laid.ctrl_fits;
      ctrl_end = laid.ctrl_end;
      temp_fits = omega arith;
      temp_end = omega arith;
    }

pub laid_pop_ctrl : (P : Parts) (m : List ℕ) (c t x : ℕ) (ctrl temp areas : List ℕ) → IsLaidOut P m c t (x ∷ ctrl) temp areas
    → IsLaidOut P m (c + 1) t ctrl temp areas
laid_pop_ctrl P m c t x ctrl temp areas laid =
    record {
      size = laid.size;
      code = laid.code;
      areas_at = laid.areas_at;
      ctrl_at = laid.ctrl_at.1;
      temp_at = laid.temp_at;
      areas_fit = laid.areas_fit;
      ctrl_fits = omega arith;
      ctrl_end = omega arith;
      temp_fits = laid.temp_fits;
      temp_end = laid.temp_end;
    }

pub laid_drop_ctrl : (P : Parts) (m : List ℕ) (c t : ℕ) (xs ctrl temp areas : List ℕ) (c' : ℕ) → c' ≡ length xs + c
    → IsLaidOut P m c t (xs ++ ctrl) temp areas → IsLaidOut P m c' t ctrl temp areas
laid_drop_ctrl P m c t [] ctrl temp areas c' e laid =
    let same : c ≡ c' = omega arith in subst (λ a. IsLaidOut P m a t ctrl temp areas) same laid
laid_drop_ctrl P m c t (x ∷ xs) ctrl temp areas c' e laid =
    laid_drop_ctrl P m (c + 1) t xs ctrl temp areas c' (omega arith) (laid_pop_ctrl P m c t x (xs ++ ctrl) temp areas laid)

pub laid_drop : (P : Parts) (m : List ℕ) (c t : ℕ) (xs ctrl temp areas : List ℕ) (t' : ℕ) → t' ≡ length xs + t
    → IsLaidOut P m c t ctrl (xs ++ temp) areas → IsLaidOut P m c t' ctrl temp areas
laid_drop P m c t [] ctrl temp areas t' e laid =
    let same : t ≡ t' = omega arith in subst (λ a. IsLaidOut P m c a ctrl temp areas) same laid
laid_drop P m c t (x ∷ xs) ctrl temp areas t' e laid =
    laid_drop P m c (t + 1) xs ctrl temp areas t' (omega arith) (laid_pop P m c t x ctrl (xs ++ temp) areas laid)
