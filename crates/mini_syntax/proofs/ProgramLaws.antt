-- A whole program that was read, and what that says of its text.
use Rattle.std.proofs.Common.{◌≡◌, ℕ, ◌^◌, ◌<◌, ◌≤◌, List, [], ◌++◌, map, length, Option, Some, None, Err, true, sym, ap, ◌∙◌, arith}
use Rattle.std.proofs.lemmas.List.{append-nil, length-map}
use Rattle.stack_text.{specs.declared.breach.Breach.Breach, specs.Breaches.{least, lesser_of}, proofs.BreachLaws.{none_least, notes_more}}
use Rattle.mini_syntax.{specs.MiniReading.{IsFault, IsRead, ReadsText, RefusesTextUnless, of_program, of_tokens}, specs.Breaches.{body_of, breaches}}
use Rattle.mini_syntax.{specs.Breaches.{declared_of, decls_breaches, forms_breaches}, specs.Internal.Declaring.{ReadsDecls, ReadsProgram, are_proper}}
use Rattle.mini_syntax.{specs.declared.fault.MiniFault.MiniFault, specs.declared.fault.MiniFault.TheVariants.{Memory, Refused}}
use Rattle.mini_syntax.{specs.declared.lexeme.Lexeme.Lexeme, specs.declared.program.Declared.Declared, specs.declared.program.Statement.Statement}
use Rattle.mini_syntax.{specs.declared.reading.Reading.Reading, specs.Faults.AreFree, specs.Grammar.{IsProgram, InfixProgram, decls_tokens, forms_tokens}}
use Rattle.mini_syntax.{specs.Grammar.program_tokens, specs.Internal.Judging.RefusesUnless, specs.Internal.Lexemes.token_seen}
use Rattle.mini_syntax.{specs.Internal.Phrases.ReadsForms, specs.ProgramView.block_in, specs.Tokens.{Token, between, tokens_in}}
use Rattle.mini_syntax.{proofs.LimitLaws.free_is_lawful, proofs.SpanLaws.{all_good, tokens_few}}

-- declarations and statements are a program where no token is left
pub record WholeRead (ts : List Token) (ds : List Declared) (body : List Statement) (breach : Option Breach) : Type 0 where
  pub tree : InfixProgram
  pub tokens_are : ts ≡ program_tokens tree
  pub declared : ds ≡ declared_of tree
  pub means : block_in body ≡ body_of tree
  pub breach_is : breach ≡ least (breaches tree)

pub whole_read : {ts mid new : List Token} {ds : List Declared} {b1 b2 : Option Breach} {body : List Statement} → ReadsDecls ds ts mid None b1
    → ReadsForms ds mid new b1 b2 body → new ≡ [] →
    WholeRead ts ds body b2
whole_read {b1 = b1} {b2 = b2} d f empty = record {
  tree = record { decls = d.trees; forms = f.tree; bound = f.bound };
  tokens_are = d.tokens_are ∙ ap (λ us. decls_tokens d.trees ++ us) (f.tokens_are ∙ ap (λ us. forms_tokens f.tree ++ us) empty ∙ append-nil _);
  declared = d.declared;
  means = cc (f.means, d.declared);
  breach_is = notes_more None b1 b2 (decls_breaches [] d.trees) _ d.noted (f.noted ∙ ap (λ ds. lesser_of b1 (least (forms_breaches ds f.tree))) d.declared);
}

-- ---- what is asked of the tokens of a judged text

pub tokens_proper : (text : List ℕ) (ts : List Token) → ts ≡ tokens_in text → are_proper ts ≡ true
tokens_proper text ts e = ap are_proper e ∙ all_good text between 0

pub lexemes_few : (text : List ℕ) (ls : List Lexeme) → map token_seen ls ≡ tokens_in text → length text ≤ 2 ^ 20 → length ls < 2 ^ 32
lexemes_few text ls e le = omega (arith, ap length e, length-map ls token_seen, tokens_few text, le)

-- ---- the text's answer

module _ (text : List ℕ) (ts : List Token) (reading : Reading) (tokens : ts ≡ tokens_in text) (free : AreFree (tokens_in text))
    (r : ReadsProgram ts reading) where
  is_program : IsProgram text r.tree
  is_program = sym tokens ∙ r.tokens_are

  is_read : IsRead text r.tree
  is_read = record { program = is_program; free = free }

  pub text_read : length text ≤ 2 ^ 20 → reading.breach ≡ None → ReadsText text reading.program
  text_read few none =
      let clean : breaches r.tree ≡ [] = none_least (breaches r.tree) (sym r.breach ∙ none) in
      let short = free_is_lawful text r.tree is_program few free clean in
      record {
        tree = r.tree;
        faultless = record { read = is_read; clean = clean };
        declared = r.declared;
        body = r.body;
        lawful = short.lawful;
        short = short.short;
      }

  pub text_faulty : (breach : Breach) → reading.breach ≡ Some breach → IsFault text breach.rule breach.place
  text_faulty breach e = of_program r.tree is_read (sym r.breach ∙ e)

-- a fault of the tokens is the text's
pub refuses_text : (X Y R : Type 0) (text : List ℕ) (e : MiniFault) → RefusesUnless {X = X} R text (Err e) → RefusesTextUnless {X = Y} R text (Err e)
refuses_text X Y R text Memory r = r
refuses_text X Y R text (Refused rule place) r = of_tokens r
