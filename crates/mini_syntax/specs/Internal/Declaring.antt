-- What the reader has read of a text's declarations, and of a whole text.
use Rattle.std.specs.{Prelude.{◌≡◌, List, [], ◌∷◌, ◌++◌, map, Option, Bool, true}, List.{list_all}}
use Rattle.stack_text.specs.{declared.breach.Breach.{Breach}, Breaches.{Notes, least}}
use Rattle.mini_syntax.specs.{declared.expected.Expected.{Expected}, declared.program.Declared.{Declared}}
use Rattle.mini_syntax.specs.{declared.reading.Reading.{Reading}, Breaches.{body_of, breaches, declared_by, declared_of, decl_breaches}}
use Rattle.mini_syntax.specs.{Breaches.{decls_breaches}, Grammar.{Decl, InfixProgram, decl_tokens, decls_tokens, program_tokens}}
use Rattle.mini_syntax.specs.{Names.{is_variable_name}, Internal.Phrases.{Completes}, ProgramView.{block_in}, Tokens.{Token, name_at}}
use Rattle.mini_syntax.specs.declared.expected.Expected.TheVariants as wants

-- a token that is a name has the bytes of one
abbrev pub is_proper : Token → Bool
is_proper (name_at place bytes) = is_variable_name bytes
is_proper t = true

abbrev pub are_proper : List Token → Bool
are_proper ts = list_all is_proper ts

-- one declaration
pub record ReadsDecl (before after : List Declared) (old new : List Token) (best next : Option Breach) : Type 0 where
  pub tree : Decl
  pub tokens_are : old ≡ decl_tokens tree ++ new
  pub declared : after ≡ before ++ declared_by tree ∷ []
  pub noted : Notes best (decl_breaches before tree) next

-- all of them
pub record ReadsDecls (ds : List Declared) (old new : List Token) (best next : Option Breach) : Type 0 where
  pub trees : List Decl
  pub tokens_are : old ≡ decls_tokens trees ++ new
  pub declared : ds ≡ map declared_by trees
  pub noted : Notes best (decls_breaches [] trees) next
  pub ends : (st : List Expected) → Completes (wants.MoreDeclarations ∷ st) new → Completes st new

-- the program that the tokens are, and the least breach of it
pub record ReadsProgram (ts : List Token) (reading : Reading) : Type 0 where
  pub tree : InfixProgram
  pub tokens_are : ts ≡ program_tokens tree
  pub declared : reading.program.declared.items ≡ declared_of tree
  pub body : block_in reading.program.body.items ≡ body_of tree
  pub breach : reading.breach ≡ least (breaches tree)
