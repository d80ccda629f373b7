-- A text has one answer: a fault, or none.
use Rattle.std.proofs.Common.{◌≡◌, ℕ, List, Some, None, sym, ap, ◌∙◌}
use Rattle.stack_text.{specs.declared.breach.Breach.Breach, specs.Breaches.least}
use Rattle.mini_syntax.{specs.MiniReading.{IsFault, of_tokens, of_program, IsFaultless}, specs.Breaches.breaches, specs.Grammar.InfixProgram}
use Rattle.mini_syntax.{proofs.OneFaultLaws.{none, one}, proofs.OneProgramLaws.program_is}

pub one_fault : (text : List ℕ) (rule place other there : ℕ) → IsFault text rule place → IsFault text other there → (rule ≡ other) × (place ≡ there)
one_fault text rule place other there (of_tokens f) (of_tokens g) = one text rule place other there f g
one_fault text rule place other there (of_tokens f) (of_program q read least_is) = absurd (none text rule place q read.free read.program f)
one_fault text rule place other there (of_program p read least_is) (of_tokens g) = absurd (none text other there p read.free read.program g)
one_fault text rule place other there (of_program p read least_is) (of_program q read' least_is') =
    let same : p ≡ q = program_is text p q read.program read'.program in
    let both : Some record { place = place; rule = rule } ≡ Some record { place = there; rule = other } =
    sym least_is ∙ ap (λ (x : InfixProgram). least (breaches x)) same ∙ least_is' in
    let breach : record { place = place; rule = rule } ≡ record { place = there; rule = other } = cc in
    (ap (λ (b : Breach). b.rule) breach, ap (λ (b : Breach). b.place) breach)

pub either_way : (text : List ℕ) (rule place : ℕ) (q : InfixProgram) → IsFault text rule place → IsFaultless text q → ⊥
either_way text rule place q (of_tokens f) a = none text rule place q a.read.free a.read.program f
either_way text rule place q (of_program p read least_is) a =
    let same : p ≡ q = program_is text p q read.program a.read.program in
    let clean : least (breaches p) ≡ None = ap (λ (x : InfixProgram). least (breaches x)) same ∙ ap least a.clean in
    let both = sym least_is ∙ clean in
    cc
