-- The words of values are an initial stack, where the system's stack has the words of values of the same shapes.
use Rattle.std.{proofs.Common.{◌≡◌, List, [], ◌∷◌, ◌++◌, length, map, sym, ap, ◌∙◌}, specs.Prelude.All, proofs.lemmas.List.Elements.{All-nil, All-cons}}
use Rattle.stack_text.{specs.declared.shape.Shape.Shape, specs.Values.ValueOf}
use Rattle.piton_words.specs.declared.word.Word.{Word}
use Rattle.piton_words.specs.declared.word.Word.TheVariants as word
use Rattle.piton_check.{specs.Instruction.SystemView, specs.Sound.Exists}
use Rattle.piton_semantics.specs.Fits.{IsInitialStack}
use Rattle.gypsy_syntax.{specs.ProgramFits.Each, specs.ValuesFit.{ValueFits, VarsFit}}
use Rattle.gypsy_codegen.{specs.WordsOf.words_of_values, proofs.CopyLaws.each_both, proofs.StackLaws.values_words, proofs.FineLaws.values_in_range}
use Rattle.gypsy_codegen.proofs.InstructionLaws.{InRange}
use Rattle.gypsy_semantics.proofs.Keeping.{vars_join, locals_fit}
use Rattle.stack_build.proofs.Numbers.{each_fits}

exists : (s : SystemView) (w : Word) → InRange w → Exists s w
exists s (word.Int z) h = h
exists s (word.Nat n) h = h
exists s (word.Bitv n) h = absurd h
exists s (word.Bool b) h = tt
exists s (word.Addr area offset) h = absurd h
exists s (word.Pc program place) h = absurd h
exists s (word.Subr program) h = absurd h

all_exist : (s : SystemView) (ws : List Word) → Each InRange ws → All (Exists s) ws
all_exist s [] h = All-nil (Exists s)
all_exist s (w ∷ ws) h = All-cons (Exists s) w ws (exists s w h.0) (all_exist s ws h.1)

pub is_initial : (s : SystemView) (shapes : List Shape) (old new locals : List ValueOf) → VarsFit shapes old → VarsFit shapes new → Each ValueFits locals →
    s.stack ≡ words_of_values (old ++ locals) → IsInitialStack s (words_of_values (new ++ locals))
is_initial s shapes old new locals f g l is =
    let all : List Shape = shapes ++ map (λ (v : ValueOf). v.shape) locals in
    let others = locals_fit locals l in
    record {
      as_long =
          values_words all (new ++ locals) (vars_join shapes (map (λ (v : ValueOf). v.shape) locals) new locals g others)
          ∙ sym (values_words all (old ++ locals) (vars_join shapes (map (λ (v : ValueOf). v.shape) locals) old locals f others))
          ∙ ap (λ (ws : List Word). length ws) (sym is);
      words = all_exist s (words_of_values (new ++ locals)) (values_in_range (new ++ locals) (each_both ValueFits new locals (each_fits shapes new g) l));
    }
