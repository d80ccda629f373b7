-- The grammar of Micro-Gypsy: the source that a tree is, or its faults, part by part.
use Rattle.std.specs.Prelude.{◌+◌, ℕ, ℤ, List, [], ◌∷◌, Ok, Option, Some, None, drop, Bool, true, false, ◌&&◌, ◌==◌, nat_le, codes}
use Rattle.std.specs.{Prelude.{if◌then◌else◌}, Str.{bytes_eq}}
use Rattle.stack_text.specs.{SharedLimits.{most_declared, most_procedures}, Names.{is_name, is_truth_word}, Numerals.{is_digits}}
use Rattle.stack_text.specs.{Numerals.{is_numeral, numeral_value, fits_128_bits}, Trees.{Node, Nodes, atom, list, none, more, place_of}}
use Rattle.stack_text.specs.{declared.name.Named.{Named}, declared.shape.Kind.{Kind}, Grammar.Judged.{Judged, fault, judged, ◌⊛◌, front}}
use Rattle.stack_text.specs.{Grammar.Judged.{each_of}, Grammar.Parts.{count_of, is_atom_of, list_length, list_or, name_or}}
use Rattle.gypsy_syntax.specs.{declared.keyword.Keyword.{Keyword}, declared.literal.Decl.{Decl}, declared.literal.TypeText.{TypeText}}
use Rattle.gypsy_syntax.specs.{Keywords.{keyword_named, kind_named}, Made.{new_name, new_simple, new_array, new_decl, new_local, new_list}}
use Rattle.gypsy_syntax.specs.{Made.{new_seq, new_branch, new_begin, new_call, new_predef, new_proc, new_source}, Sources.{LiteralOf}}
use Rattle.gypsy_syntax.specs.Sources.{integer, truth, character, ArgOf, variable, constant, StmtOf, no_op, signal, loop, LocalOf, ProcOf}
use Rattle.gypsy_syntax.specs.Sources.{SourceOf}
use Rattle.gypsy_syntax.specs.declared.keyword.Keyword.TheVariants as word

-- M3 where a name is wanted and isn't there
abbrev pub named_in : Node → Judged Named
named_in = name_or 3

-- M5 where a list of names is wanted and isn't there
abbrev pub names_in : Node → Judged (List Named)
names_in = list_or 5 named_in

-- whether the tree is the word
abbrev pub is_word : List ℕ → Node → Bool
is_word w = is_atom_of (λ bytes. bytes_eq bytes w)

-- the number of a numeral at a place, or M11 where it is out of range
abbrev pub number_at : ℕ → List ℕ → Judged ℤ
number_at p bytes = judged p 11 (fits_128_bits (numeral_value bytes)) (Ok (numeral_value bytes))

abbrev pub number_in : Node → Judged ℤ
number_in (atom p bytes) = number_at p bytes
number_in (list p ts) = fault p 11

abbrev pub kind_in : Node → Option Kind
kind_in (atom p bytes) = kind_named bytes
kind_in (list p ts) = None

abbrev pub simple_type : ℕ → Option Kind → Judged TypeText
simple_type p None = fault p 7
simple_type p (Some k) = Ok (new_simple p k)

abbrev pub array_type : ℕ → Option Kind → Node → Judged TypeText
array_type p None n = fault p 7
array_type p (Some k) n = judged p 7 (is_atom_of is_numeral n) (Ok (new_array p k) ⊛ number_in n)

-- `integer`, `boolean`, `character` or `(array SIMPLE N)`, or M7
abbrev pub type_in : Node → Judged TypeText
type_in (list p (more a (more k (more n none)))) = judged p 7 (is_word (codes "array") a) (array_type p (kind_in k) n)
type_in (list p ts) = fault p 7
type_in (atom p bytes) = simple_type p (kind_named bytes)

-- `#` and digits
abbrev pub is_character : List ℕ → Bool
is_character [] = false
is_character (byte ∷ digits) = byte == 35 && is_digits digits

-- `true` or `false`, or M8
abbrev pub truth_at : ℕ → List ℕ → Judged LiteralOf
truth_at p bytes = judged p 8 (is_truth_word bytes) (Ok (truth p (bytes_eq bytes (codes "true"))))

-- a numeral, a character, `true` or `false`, or M8
abbrev pub simple_at : ℕ → List ℕ → Judged LiteralOf
simple_at p bytes =
    if is_numeral bytes then Ok (integer p) ⊛ number_at p bytes else
    if is_character bytes then Ok (character p) ⊛ number_at p (drop 1 bytes) else
    truth_at p bytes

-- a simple value, also as the item of a list, or M8
abbrev pub simple_in : Node → Judged LiteralOf
simple_in (atom p bytes) = simple_at p bytes
simple_in (list p ts) = fault p 8

-- a simple value, or a list of these
abbrev pub literal_in : Node → Judged LiteralOf
literal_in (atom p bytes) = simple_at p bytes
literal_in (list p ts) = Ok (new_list p) ⊛ each_of simple_in ts

-- `(V TYPE)`, or M4
abbrev pub decl_in : Node → Judged Decl
decl_in (list p (more v (more t none))) = Ok new_decl ⊛ named_in v ⊛ type_in t
decl_in t = fault (place_of t) 4

-- `(V TYPE VALUE)`, or M6
abbrev pub local_in : Node → Judged LocalOf
local_in (list p (more v (more t (more value none)))) = Ok new_local ⊛ named_in v ⊛ type_in t ⊛ literal_in value
local_in t = fault (place_of t) 6

-- a name or a simple value
abbrev pub arg_at : ℕ → List ℕ → Judged ArgOf
arg_at p bytes = if is_name bytes then Ok (variable (new_name p bytes)) else Ok constant ⊛ simple_at p bytes

abbrev pub arg_in : Node → Judged ArgOf
arg_in (atom p bytes) = arg_at p bytes
arg_in (list p ts) = fault p 8

abbrev pub is_empty_list : Node → Bool
is_empty_list (list p none) = true
is_empty_list t = false

abbrev mutual
  -- a statement, or M9
  pub statement_in : Node → Judged StmtOf
  statement_in (list p (more (atom q bytes) ts)) = form_in (keyword_named bytes) p ts
  statement_in t = fault (place_of t) 9

  -- what follows the first word of a statement, or M10 at the statement
  pub form_in : Option Keyword → ℕ → Nodes → Judged StmtOf
  form_in None p ts = fault p 9
  form_in (Some word.NoOp) p none = Ok (no_op p)
  form_in (Some word.Signal) p (more c none) = Ok (signal p) ⊛ named_in c
  form_in (Some word.Seq) p (more s ss) = Ok (new_seq p) ⊛ (Ok front ⊛ statement_in s ⊛ statements_in ss)
  form_in (Some word.Loop) p (more s none) = Ok (loop p) ⊛ statement_in s
  form_in (Some word.If) p (more b (more s (more t none))) = Ok (new_branch p) ⊛ named_in b ⊛ statement_in s ⊛ statement_in t
  form_in (Some word.Begin) p (more s (more cs (more t none))) =
      if is_empty_list cs then fault p 10 else Ok (new_begin p) ⊛ statement_in s ⊛ names_in cs ⊛ statement_in t
  form_in (Some word.Call) p (more f (more vs (more cs none))) =
      Ok (new_call p (place_of vs) (place_of cs)) ⊛ named_in f ⊛ names_in vs ⊛ names_in cs
  form_in (Some (word.Predef which)) p ts = Ok (new_predef p which) ⊛ each_of arg_in ts
  form_in (Some k) p ts = fault p 10

  pub statements_in : Nodes → Judged (List StmtOf)
  statements_in none = Ok []
  statements_in (more s ss) = Ok front ⊛ statement_in s ⊛ statements_in ss

-- two lists, or trees in their places, with at most 200 items together
abbrev pub are_few : Node → Node → Bool
are_few t u = nat_le (list_length t + list_length u) most_declared

-- `(proc NAME FORMALS CONDS LOCALS CONDS STMT)`, or M2; M12 where it declares too many variables or conditions
abbrev pub procedure_in : Node → Judged ProcOf
procedure_in (list p (more w (more name (more formals (more conds (more locals (more local_conds (more body none)))))))) =
    judged p 2 (is_word (codes "proc") w)
    (judged p 12 (are_few formals locals && are_few conds local_conds)
    (Ok (new_proc p) ⊛ named_in name ⊛ list_or 4 decl_in formals ⊛ names_in conds ⊛ list_or 6 local_in locals
    ⊛ names_in local_conds ⊛ statement_in body))
procedure_in t = fault (place_of t) 2

-- `(program MAIN PROC ..)` with one procedure or more, or M1; M12 where there are too many
abbrev pub source_in : Node → Judged SourceOf
source_in (list p (more w (more main (more q qs)))) =
    judged p 1 (is_word (codes "program") w)
    (judged p 12 (nat_le (count_of (more q qs)) most_procedures) (Ok (new_source p) ⊛ named_in main ⊛ each_of procedure_in (more q qs)))
source_in t = fault (place_of t) 1
