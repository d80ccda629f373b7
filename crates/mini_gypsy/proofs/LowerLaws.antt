-- What a text becomes.
use Rattle.std.proofs.Common.{◌≡◌, ℕ, List, Ok, Err, length, sym, ap, subst, ◌∙◌, arith}
use Rattle.gypsy_syntax.{specs.GypsyReading.KeepsForm, specs.Printed.gypsy_text, specs.Resolved.program_of, specs.Sources.SourceOf}
use Rattle.gypsy_syntax.proofs.ReadAgainLaws.{gypsy_text_reads}
use Rattle.mini_syntax.{specs.MiniReading.{IsFault, TextReading, ReadsText, faultless, faulty}, specs.Breaches.{body_of, declared_of}}
use Rattle.mini_syntax.{specs.declared.program.Declared.Declared, specs.Grammar.InfixProgram, specs.Lawful.IsLawful, specs.ProgramView.block_in}
use Rattle.mini_syntax.{proofs.OneAnswerLaws.{either_way, one_fault}, proofs.OneProgramLaws.program_is}
use Rattle.mini_syntax.specs.declared.program.InfixProgram as made
use Rattle.mini_gypsy.{specs.Lowered.lowered, specs.Promises.{Lowers, MeansSame}, specs.Stored.{lowering_by, source_for}, proofs.MeaningLaws.means_same}
use Rattle.mini_gypsy.proofs.TextLaws.{lowered_short}

-- a program that was read is lawful
pub lawful_read : (text : List ℕ) (program : made.InfixProgram) → ReadsText text program → IsLawful program.declared.items (block_in program.body.items)
lawful_read text program r =
    subst (λ (ds : List Declared). IsLawful ds (block_in program.body.items)) (sym r.declared) (subst (IsLawful (declared_of r.tree)) (sym r.body) r.lawful)

pub text_lowers : (text : List ℕ) (program : made.InfixProgram) (s : SourceOf) → ReadsText text program → KeepsForm s
    → s ≡ lowered program.declared.items (block_in program.body.items) → Lowers text s
text_lowers text program s r form is =
    let ds = declared_of r.tree in
    let b = body_of r.tree in
    let source : s ≡ lowered ds b = is ∙ ap (λ (x : List Declared). lowered x (block_in program.body.items)) r.declared ∙ ap (lowered ds) r.body in
    let long : length (gypsy_text s) ≡ length (gypsy_text (lowered ds b)) = ap (λ (x : SourceOf). length (gypsy_text x)) source in
    let short = lowered_short ds b r.lawful in
    record {
      program = r.tree;
      faultless = r.faultless;
      source = source;
      means = subst (λ (x : SourceOf). MeansSame (program_of x) b) (sym source) (means_same ds b r.lawful);
      again = gypsy_text_reads s form;
      short = omega (arith, long, short, r.short);
    }

pub one_source : (text : List ℕ) (s t : SourceOf) → Lowers text s → Lowers text t → s ≡ t
one_source text s t a b =
    let same : a.program ≡ b.program = program_is text a.program b.program a.faultless.read.program b.faultless.read.program in
    a.source ∙ ap (λ (p : InfixProgram). lowered (declared_of p) (body_of p)) same ∙ sym b.source

pub no_fault : (text : List ℕ) (rule place : ℕ) (s : SourceOf) → IsFault text rule place → Lowers text s → ⊥
no_fault text rule place s f a = either_way text rule place a.program f a.faultless

pub fault_read : (text : List ℕ) (rule place : ℕ) → IsFault text rule place → (found : TextReading text)
    → lowering_by found ≡ Err record { place = place; rule = rule }
fault_read text rule place f (faultless p is) = absurd (either_way text rule place p f is)
fault_read text rule place f (faulty b g) =
    let same = one_fault text b.rule b.place rule place g f in
    let rules = same.0 in
    let places = same.1 in
    λ i. Err record { place = places i; rule = rules i }

pub source_read : (text : List ℕ) (s : SourceOf) → Lowers text s → (found : TextReading text) → lowering_by found ≡ Ok s
source_read text s a (faultless p is) =
    let same : p ≡ a.program = program_is text p a.program is.read.program a.faultless.read.program in
    ap (λ (q : InfixProgram). Ok (source_for q)) same ∙ ap (λ (t : SourceOf). Ok t) (sym a.source)
source_read text s a (faulty b g) = absurd (either_way text b.rule b.place a.program g a.faultless)
