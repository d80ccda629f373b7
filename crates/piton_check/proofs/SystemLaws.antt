-- Systems, part by part.
use Rattle.std.{proofs.Common.{◌≡◌, ℕ, unwrap_or, List, [], ◌++◌, map, max, length, not, Option, ap, ◌∙◌}, specs.List.flat_map}
use Rattle.piton_syntax.{specs.declared.word_text.Number.Number, specs.declared.word_text.WordText.WordText, specs.Systems.{ProgramOf, AreaOf, SystemOf}}
use Rattle.stack_text.{specs.declared.breach.Breach.Breach, specs.Breaches.{when, lesser_of, least, Notes}, proofs.BreachLaws.notes_more}
use Rattle.piton_check.{specs.Declarations.{area_name, program_name, area_names, program_names, repeats, first_of}, specs.Violations.word_breaches}
use Rattle.piton_check.specs.Violations.{area_breaches, program_breaches, main_of, main_breaches, first_frame, is_within, size_breaches, name_breaches}
use Rattle.piton_check.{specs.Violations.part_breaches, specs.Resolved.{ResolvedProgramOf, ResolvedOf, resolved, resolved_number, resolved_area, resolved_word}}
use Rattle.piton_check.specs.Resolved.{resolved_program}
use Rattle.piton_words.specs.declared.word.Word.{Word}

pub names_noted : (s : SystemOf) (items : List AreaOf) (ps : List ProgramOf) (a b c : Option Breach) → items ≡ s.areas → ps ≡ s.programs →
    Notes a (repeats 2 [] (map area_name items)) b → Notes b (repeats 1 [] (map program_name ps)) c → Notes a (name_breaches s) c
names_noted s items ps a b c items_are ps_are h k =
    notes_more a b c (repeats 2 [] (area_names s)) (repeats 1 [] (program_names s))
    (h ∙ ap (λ (xs : List AreaOf). lesser_of a (least (repeats 2 [] (map area_name xs)))) items_are)
    (k ∙ ap (λ (xs : List ProgramOf). lesser_of b (least (repeats 1 [] (map program_name xs)))) ps_are)

-- a number that is not within its limits
abbrev size_breach : ℕ → ℕ → Number → List Breach
size_breach low high n = when (not (is_within low high n.number)) n.place 14

pub sizes_noted : (s : SystemOf) (frame room : ℕ) (ctrl temp base : Number) (a b c d : Option Breach) → frame ≡ first_frame (main_of s)
    → room ≡ max (length s.stack) 1 → ctrl ≡ s.ctrl → temp ≡ s.temp → base ≡ s.base →
    Notes a (size_breach frame 65536 ctrl) b → Notes b (size_breach room 65536 temp) c → Notes c (size_breach 0 2147483648 base) d → Notes a (size_breaches s) d
sizes_noted s frame room ctrl temp base a b c d frame_is room_is ctrl_is temp_is base_is h k l =
    let frame_at = first_frame (main_of s) in
    let room_at = max (length s.stack) 1 in
    notes_more a c d (size_breach frame_at 65536 s.ctrl ++ size_breach room_at 65536 s.temp) (size_breach 0 2147483648 s.base)
    (notes_more a b c (size_breach frame_at 65536 s.ctrl) (size_breach room_at 65536 s.temp)
    (h ∙ ap (λ (n : ℕ). lesser_of a (least (size_breach n 65536 ctrl))) frame_is
    ∙ ap (λ (n : Number). lesser_of a (least (size_breach frame_at 65536 n))) ctrl_is)
    (k ∙ ap (λ (n : ℕ). lesser_of b (least (size_breach n 65536 temp))) room_is ∙ ap (λ (n : Number). lesser_of b (least (size_breach room_at 65536 n)))
    temp_is))
    (l ∙ ap (λ (n : Number). lesser_of c (least (size_breach 0 2147483648 n))) base_is)

pub parts_noted : (s r : SystemOf) (items : List AreaOf) (ws : List WordText) (ps : List ProgramOf) (a b c d e f : Option Breach) → r ≡ s
    → items ≡ s.areas → ws ≡ s.stack → ps ≡ s.programs →
    Notes a (main_breaches r (main_of r)) b → Notes b (size_breaches r) c → Notes c (flat_map (area_breaches r) items) d
    → Notes d (flat_map (word_breaches r) ws) e → Notes e (flat_map (program_breaches r) ps) f →
    Notes a (part_breaches s) f
parts_noted s r items ws ps a b c d e f r_is items_are ws_are ps_are main sizes areas words programs =
    let two = notes_more a b c (main_breaches r (main_of r)) (size_breaches r) main sizes in
    let three = notes_more a c d (main_breaches r (main_of r) ++ size_breaches r) (flat_map (area_breaches r) items) two areas in
    let four = notes_more a d e (main_breaches r (main_of r) ++ size_breaches r ++ flat_map (area_breaches r) items) (flat_map (word_breaches r) ws)
    three words in
    let five = notes_more a e f (main_breaches r (main_of r) ++ size_breaches r ++ flat_map (area_breaches r) items ++ flat_map (word_breaches r) ws)
    (flat_map (program_breaches r) ps) four programs in
    five
    ∙ ap (λ (xs : List AreaOf). lesser_of a (least
    (main_breaches r (main_of r) ++ size_breaches r ++ flat_map (area_breaches r) xs ++ flat_map (word_breaches r) ws
    ++ flat_map (program_breaches r) ps))) items_are
    ∙ ap (λ (xs : List WordText). lesser_of a
    (least (main_breaches r (main_of r) ++ size_breaches r ++ flat_map (area_breaches r) s.areas ++ flat_map (word_breaches r) xs
    ++ flat_map (program_breaches r) ps))) ws_are
    ∙ ap (λ (xs : List ProgramOf). lesser_of a
    (least (main_breaches r (main_of r) ++ size_breaches r ++ flat_map (area_breaches r) s.areas ++ flat_map (word_breaches r) s.stack
    ++ flat_map (program_breaches r) xs))) ps_are
    ∙ ap (λ (t : SystemOf). lesser_of a (least
    (main_breaches t (main_of t) ++ size_breaches t ++ flat_map (area_breaches t) s.areas ++ flat_map (word_breaches t) s.stack
    ++ flat_map (program_breaches t) s.programs))) r_is

-- the resolved system from its parts
pub parts_made : (s : SystemOf) (main ctrl temp base : ℕ) (areas : List (List Word)) (stack : List Word) (programs : List ResolvedProgramOf) →
    main ≡ unwrap_or (first_of (program_names s) s.main.name) 0 → ctrl ≡ resolved_number s.ctrl.number → temp ≡ resolved_number s.temp.number
    → base ≡ resolved_number s.base.number →
    areas ≡ map (resolved_area s) s.areas → stack ≡ map (resolved_word s) s.stack → programs ≡ map (resolved_program s) s.programs →
    (let made : ResolvedOf = record { main = main; ctrl = ctrl; temp = temp; base = base; areas = areas; stack = stack; programs = programs } in made)
    ≡ resolved s
parts_made s main ctrl temp base areas stack programs a b c d e f g =
    λ i. record { main = a i; ctrl = b i; temp = c i; base = d i; areas = e i; stack = f i; programs = g i }
