-- Main's own need.
use Rattle.std.proofs.Common.{◌≡◌, ℕ, ◌+◌, ◌≤◌, ◌++◌, map, sym, ap, ap₂, ◌∙◌, arith, List}
use Rattle.stack_text.specs.Values.{ValueOf}
use Rattle.gypsy_syntax.{specs.ProgramFits.ProgramFits, specs.Programs.{Program, proc_at, words_of}}
use Rattle.gypsy_space.{specs.Events.{AreNeeds, need_at, need_of}, specs.Needs.{main_need, main_used}, specs.declared.need.Need.Need}
use Rattle.gypsy_space.proofs.SmallLaws.{words_of-append}

pub formals_small : (q : Program) → ProgramFits q → words_of (proc_at q q.main).formals ≤ 65536
formals_small q fits =
    let p = proc_at q q.main in
    let locals = map (λ (v : ValueOf). v.shape) p.locals in
    let all : words_of (p.formals ++ locals) ≤ 65536 = (fits.procs q.main).words in
    let both : words_of (p.formals ++ locals) ≡ words_of p.formals + words_of locals = words_of-append p.formals locals in
    omega (arith, all, both)

pub temporary_is : (q : Program) (ns : List Need) (words : ℕ) → AreNeeds q ns → ProgramFits q → words ≡ words_of (proc_at q q.main).formals →
    words + (need_at ns q.main).locals_words + (need_at ns q.main).temp ≡ (main_need q).temp
unfolding main_need main_used
temporary_is q ns words needs fits is =
    let p = proc_at q q.main in
    let locals = map (λ (v : ValueOf). v.shape) p.locals in
    let exact : need_at ns q.main ≡ need_of q q.main = needs.each q.main fits.main in
    let both : words_of (p.formals ++ locals) ≡ words_of p.formals + words_of locals = words_of-append p.formals locals in
    ap₂ (λ (n : ℕ) (k : Need). n + k.locals_words + k.temp) is exact ∙ ap (λ (n : ℕ). n + (need_of q q.main).temp) (sym both)

pub control_is : (q : Program) (ns : List Need) → AreNeeds q ns → ProgramFits q → 2 + (need_at ns q.main).vars + (need_at ns q.main).ctrl ≡ (main_need q).ctrl
unfolding main_need main_used
control_is q ns needs fits =
    let exact : need_at ns q.main ≡ need_of q q.main = needs.each q.main fits.main in
    ap (λ (k : Need). 2 + k.vars + k.ctrl) exact
