-- What is generated where no limit is passed.
use Rattle.std.proofs.Common.{◌≡◌, ℕ, suc, ◌+◌, ◌<◌, ◌≤◌, ◌^◌, List, [], ◌∷◌, length, Bool, true, false, cond, Some, None, Option, refl, sym, ap, subst, ◌∙◌}
use Rattle.std.{proofs.Common.arith, specs.Prelude.{not, nat_lt, nat_le, ◌&&◌, if◌then◌else◌, IfSome, Ok, Err}, proofs.lemmas.Bool.{leb-true, ltb-true}}
use Rattle.std.{proofs.lemmas.Bool.{ltb-false, lt-ltb, and_parts}, proofs.lemmas.List.length-map}
use Rattle.piton_check.{specs.PitonChecking.{CheckedOf, IsChecked}, specs.Instruction.{SystemView, system_view}, specs.Resolved.resolved}
use Rattle.piton_syntax.specs.Systems.{SystemOf}
use Rattle.piton_semantics.specs.State as state
use Rattle.piton_semantics.{specs.Placed.program_size, specs.Fits.system_in, specs.StateView.started}
use Rattle.gypsy_syntax.{specs.Programs.Program, specs.Resolved.{procedure_of, program_of}, specs.Sources.SourceOf, proofs.FitsLaws.keeps_fits}
use Rattle.gypsy_check.specs.Accepted.{IsAccepted}
use Rattle.gypsy_space.{specs.declared.need.Need.Need, specs.Events.{AreNeeds, need_at, need_of}, specs.Needs.{StackSizes, code_words, main_need}}
use Rattle.gypsy_space.proofs.SmallLaws.{code_modest}
use Rattle.gypsy_semantics.specs.Calls.{main_start}
use Rattle.gypsy_codegen.{specs.declared.fault.GenFault.GenFault, specs.declared.fault.GenFault.TheVariants.{Control, Temporary, Size, Words as TooManyWords}}
use Rattle.gypsy_codegen.{specs.Acceptable.{code_words_of, total_words, LimitsFit, GeneratedIsAcceptable, SourceRuns}, specs.Generation.{are_sizes, fault_of}}
use Rattle.gypsy_codegen.{specs.Generation.{size_fault, generation, SystemImplements, TakesCodeWords}, specs.Generated.{count_from, generated_view}}
use Rattle.gypsy_codegen.{specs.Sizes.ProceduresTakeWords, specs.Text.generated, specs.Internal.Views.{AreModest, words_together}, specs.Whole.RunsTo}
use Rattle.gypsy_codegen.{specs.Moments.{moment_from, HasMoment, EachMomentIsReached}, specs.WordsOf.words_of_values}
use Rattle.fm_words.specs.WindowLimit.{most_window}
use Rattle.stack_text.{specs.Gives.FailsUnless, specs.Results.unless_fault}

-- ---- words of code

together_from : (q : Program) (k : ℕ) (ns : List Need) → ((p : ℕ) → p < length ns → need_at ns p ≡ need_of q (k + p)) →
    words_together ns ≡ code_words_of q (count_from k (length ns))
together_from q k [] h = refl
together_from q k (n ∷ ns) h =
    let first : n.code_words ≡ code_words q k = ap (λ m. m.code_words) (h 0 (omega arith)) ∙ ap (code_words q) (omega arith) in
    let rest : words_together ns ≡ code_words_of q (count_from (suc k) (length ns)) =
    together_from q (suc k) ns (λ p lt. h (suc p) (omega (arith, lt)) ∙ ap (need_of q) (omega arith)) in
    ap (λ m. m + words_together ns) first ∙ ap (λ m. code_words q k + m) rest

pub together_is : (q : Program) (ns : List Need) → AreNeeds q ns → words_together ns ≡ total_words q
together_is q ns needs =
    together_from q 0 ns (λ p lt. needs.each p (omega (arith, lt, needs.number)) ∙ ap (need_of q) (omega arith))
    ∙ ap (λ n. code_words_of q (count_from 0 n)) needs.number

modest_from : (ns : List Need) → ((p : ℕ) → p < length ns → (need_at ns p).code_words ≤ 2 ^ 50) → AreModest ns
modest_from [] h = tt
modest_from (n ∷ ns) h = (h 0 (omega arith), modest_from ns (λ p lt. h (suc p) (omega (arith, lt))))

pub are_modest : (s : SourceOf) → IsAccepted s → (ns : List Need) → AreNeeds (program_of s) ns → AreModest ns
are_modest s accepted ns needs =
    modest_from ns (λ p lt.
    let same : (need_at ns p).code_words ≡ code_words (program_of s) p = ap (λ n. n.code_words) (needs.each p (omega (arith, lt, needs.number))) in
    let few = code_modest s accepted.form accepted.fits p in
    omega (arith, same, few))

pub are_few : (s : SourceOf) → IsAccepted s → (ns : List Need) → AreNeeds (program_of s) ns → length ns ≤ 1000
are_few s accepted ns needs =
    let few = (keeps_fits s accepted.form).few_procs in
    omega (arith, few, needs.number, length-map s.procs (procedure_of s))

-- ---- limits

none_is : (f : GenFault) → Some f ≡ None → ⊥
none_is f h = cc

pub limits_fit : (q : Program) (sizes : StackSizes) (base : ℕ) → base ≤ 2 ^ 31 → size_fault q sizes ≡ None → LimitsFit q sizes base
unfolding size_fault
limits_fit q sizes base low none = by_sizes (are_sizes sizes) refl none
  where
    with_all : are_sizes sizes ≡ true → (main_need q).ctrl ≤ sizes.ctrl → (main_need q).temp ≤ sizes.temp → total_words q ≤ 2 ^ 20 → LimitsFit q sizes base
    with_all e ctrl temp few =
        let some_ctrl = nat_le 1 sizes.ctrl in
        let few_ctrl = nat_le sizes.ctrl 65536 in
        let some_temp = nat_le 1 sizes.temp in
        let last = and_parts (some_ctrl && few_ctrl && some_temp) (nat_le sizes.temp 65536) e in
        let third = and_parts (some_ctrl && few_ctrl) some_temp last.0 in
        let second = and_parts some_ctrl few_ctrl third.0 in
        record {
          sizes_fit = record { suffice = record { temp = temp; ctrl = ctrl }; small = leb-true sizes.temp 65536 last.1 };
          few_ctrl = leb-true sizes.ctrl 65536 second.1;
          low_base = low;
          few_words = few;
        }

    by_words : (b : Bool) → nat_lt (2 ^ 20) (total_words q) ≡ b → cond b (Some (TooManyWords (total_words q))) None ≡ None → total_words q ≤ 2 ^ 20
    by_words true e h = absurd (none_is _ h)
    by_words false e h = ltb-false (2 ^ 20) (total_words q) e

    by_temp : are_sizes sizes ≡ true → (main_need q).ctrl ≤ sizes.ctrl → (b : Bool) → nat_lt sizes.temp (main_need q).temp ≡ b →
        cond b (Some (Temporary (main_need q).temp)) (cond (nat_lt (2 ^ 20) (total_words q)) (Some (TooManyWords (total_words q))) None) ≡ None
        → LimitsFit q sizes base
    by_temp e ctrl true f h = absurd (none_is _ h)
    by_temp e ctrl false f h = with_all e ctrl (ltb-false sizes.temp (main_need q).temp f) (by_words (nat_lt (2 ^ 20) (total_words q)) refl h)

    by_ctrl : are_sizes sizes ≡ true → (b : Bool) → nat_lt sizes.ctrl (main_need q).ctrl ≡ b →
        cond b (Some (Control (main_need q).ctrl))
        (cond (nat_lt sizes.temp (main_need q).temp) (Some (Temporary (main_need q).temp))
        (cond (nat_lt (2 ^ 20) (total_words q)) (Some (TooManyWords (total_words q))) None)) ≡ None → LimitsFit q sizes base
    by_ctrl e true f h = absurd (none_is _ h)
    by_ctrl e false f h = by_temp e (ltb-false sizes.ctrl (main_need q).ctrl f) (nat_lt sizes.temp (main_need q).temp) refl h

    by_sizes : (b : Bool) → are_sizes sizes ≡ b →
        cond (not b) (Some Size) (cond (nat_lt sizes.ctrl (main_need q).ctrl) (Some (Control (main_need q).ctrl))
        (cond (nat_lt sizes.temp (main_need q).temp) (Some (Temporary (main_need q).temp))
        (cond (nat_lt (2 ^ 20) (total_words q)) (Some (TooManyWords (total_words q))) None))) ≡ None → LimitsFit q sizes base
    by_sizes false e h = absurd (none_is _ h)
    by_sizes true e h = by_ctrl e (nat_lt sizes.ctrl (main_need q).ctrl) refl h

not_less : (a b : ℕ) → b ≤ a → nat_lt a b ≡ false
not_less a b le = by (nat_lt a b) refl
  where
    by : (t : Bool) → nat_lt a b ≡ t → t ≡ false
    by true e = let lt = ltb-true a b e in absurd (omega (arith, lt, le))
    by false e = refl

module _ (q : Program) (sizes : StackSizes) (n : ℕ) (all : are_sizes sizes ≡ true) (ctrl : (main_need q).ctrl ≤ sizes.ctrl)
    (temp : (main_need q).temp ≤ sizes.temp) (words : n ≡ total_words q) where
  pub words_fault : 2 ^ 20 < n → Some (TooManyWords n) ≡ size_fault q sizes
  unfolding size_fault
  words_fault more =
      let c : nat_lt sizes.ctrl (main_need q).ctrl ≡ false = not_less sizes.ctrl (main_need q).ctrl ctrl in
      let t : nat_lt sizes.temp (main_need q).temp ≡ false = not_less sizes.temp (main_need q).temp temp in
      let w : nat_lt (2 ^ 20) (total_words q) ≡ true = lt-ltb (2 ^ 20) (total_words q) (omega (arith, more, words)) in
      rw (all, c, t, w) (ap (λ m. Some (TooManyWords m)) words)

  pub no_fault : n ≤ 2 ^ 20 → None ≡ size_fault q sizes
  unfolding size_fault
  no_fault few =
      let c : nat_lt sizes.ctrl (main_need q).ctrl ≡ false = not_less sizes.ctrl (main_need q).ctrl ctrl in
      let t : nat_lt sizes.temp (main_need q).temp ≡ false = not_less sizes.temp (main_need q).temp temp in
      let w : nat_lt (2 ^ 20) (total_words q) ≡ false = not_less (2 ^ 20) (total_words q) (omega (arith, few, words)) in
      rw (all, c, t, w) refl

not_some : {X : Type 0} (o : Option X) → ((x : X) → o ≡ Some x → ⊥) → o ≡ None
not_some None h = refl
not_some (Some x) h = absurd (h x refl)

-- no limit is passed, where the program is the source's
pub none_of : (q r : Program) (sizes : StackSizes) (o : Option GenFault) → q ≡ r → o ≡ size_fault q sizes → ((f : GenFault) → o ≡ Some f → ⊥)
    → size_fault r sizes ≡ None
none_of q r sizes o e f h = ap (λ (p : Program). size_fault p sizes) (sym e) ∙ sym f ∙ not_some o h

-- a limit that is passed is a fault of the source or of the sizes, and no lack of memory
first_of_four : (a b c d : Bool) (m n w : ℕ) → IfSome (if a then Some Size else if b then Some (Control m) else if c then Some (Temporary n)
    else if d then Some (TooManyWords w) else None) (λ f. fault_of f ≡ Some f)
first_of_four true b c d m n w = refl
first_of_four false true c d m n w = refl
first_of_four false false true d m n w = refl
first_of_four false false false true m n w = refl
first_of_four false false false false m n w = tt

limit_known : (q : Program) (sizes : StackSizes) → IfSome (size_fault q sizes) (λ f. fault_of f ≡ Some f)
unfolding size_fault
limit_known q sizes = first_of_four (not (are_sizes sizes)) (nat_lt sizes.ctrl (main_need q).ctrl) (nat_lt sizes.temp (main_need q).temp)
    (nat_lt most_window (total_words q)) (main_need q).ctrl (main_need q).temp (total_words q)

pub limit_fails : (refused : Type 0) (s : SourceOf) (sizes : StackSizes) (base : ℕ) (f : GenFault) → size_fault (program_of s) sizes ≡ Some f
    → FailsUnless refused (fault_of f) (generation s sizes base)
limit_fails refused s sizes base f passed =
    let known : fault_of f ≡ Some f = subst (λ (o : Option GenFault). IfSome o (λ g. fault_of g ≡ Some g)) passed (limit_known (program_of s) sizes) in
    let fails : generation s sizes base ≡ Err f = ap (λ (o : Option GenFault). unless_fault o (generated s sizes base)) passed in
    subst (λ (o : Option GenFault). FailsUnless refused o (generation s sizes base)) (sym known) fails

-- ---- the checked system

pub generation_is : (s : SourceOf) (sizes : StackSizes) (base : ℕ) (c : CheckedOf) (system : SystemOf) → size_fault (program_of s) sizes ≡ None →
    system ≡ generated s sizes base → c.system ≡ system → generation s sizes base ≡ Ok c.system
generation_is s sizes base c system none made kept =
    ap (λ (o : Option GenFault). unless_fault o (generated s sizes base)) none ∙ ap (λ (g : SystemOf). unless_fault None g) (sym (kept ∙ made))

pub implements : GeneratedIsAcceptable → SourceRuns → EachMomentIsReached → (s : SourceOf) (sizes : StackSizes) (base : ℕ) (c : CheckedOf) → IsAccepted s →
    LimitsFit (program_of s) sizes base → IsChecked c → c.system ≡ generated s sizes base → SystemImplements s sizes base c
implements acceptable runs moments s sizes base c accepted limits known kept =
    let seen : system_in c ≡ system_view (resolved (generated s sizes base)) =
    ap system_view (known.names ∙ ap resolved kept) in
    record {
      view = seen ∙ (acceptable s sizes base accepted limits).view;
      runs = λ v n x w fit done.
          let run = runs s sizes base v n x w accepted limits fit done in
          let q = program_of s in
          (run.0, run.1, subst (λ (z : SystemView). RunsTo z (started z (words_of_values (main_start q v))) x w run.0) (sym seen) run.2);
      moments = λ v j fit.
          let q = program_of s in
          let view = seen ∙ (acceptable s sizes base accepted limits).view in
          subst (λ (z : SystemView). HasMoment q z (started z (words_of_values (main_start q v))) (moment_from q sizes v j)) (sym view)
          (moments q sizes base v j accepted.fits limits.sizes_fit fit);
      limits = limits;
    }

pub takes_code_words : ProceduresTakeWords → (s : SourceOf) (sizes : StackSizes) (base : ℕ) (c : CheckedOf) → IsAccepted s →
    system_in c ≡ generated_view (program_of s) sizes base → TakesCodeWords s c
takes_code_words law s sizes base c accepted view p lt =
    let q = program_of s in
    subst (λ (z : SystemView). program_size (state.program_of z p) ≡ code_words q p) (sym view) (law q sizes base p accepted.fits lt)
