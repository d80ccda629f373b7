-- Worked texts: their tokens, and what is wrong with them.
use Rattle.std.specs.Prelude.{◌≡◌, [], ◌∷◌, codes, refl}
use Rattle.mini_syntax.specs.{Breaches.{breaches}, declared.operator.Infix.TheVariants.{Add}, declared.sort.Sort.TheVariants.{Int}}
use Rattle.mini_syntax.specs.{Grammar.{variable, binary, assign, no_forms, form, IsProgram, InfixProgram}, Tokens.{name_at, number_at}}
use Rattle.mini_syntax.specs.Tokens.{mark_at, wrong_at, tokens_in}
use Rattle.mini_syntax.specs.declared.mark.Mark.TheVariants as mark

-- `int x; x := x + y;`
abbrev pub adds_undeclared : InfixProgram
adds_undeclared = record {
  decls = record { start = 0; sort = Int; place = 4; name = codes "x"; closing = 5 } ∷ [];
  forms =
      form (assign 7 (codes "x") 9 (binary (variable 12 (codes "x")) 14 Add (variable 16 (codes "y"))) 17) no_forms;
  bound = refl;
}

pub record TextsAre : Type 0 where
  -- a number and then a name; a mark of two bytes; a byte that begins no name, and a colon alone
  pub tokens : tokens_in (codes "12ab<=_:") ≡
      number_at 0 (codes "12") ∷ name_at 2 (codes "ab") ∷ mark_at 4 mark.AtMost ∷ wrong_at 6 ∷ wrong_at 7 ∷ []
  pub program : IsProgram (codes "int x; x := x + y;") adds_undeclared
  -- its second name isn't declared
  pub refused : breaches adds_undeclared ≡ record { place = 16; rule = 6 } ∷ []
