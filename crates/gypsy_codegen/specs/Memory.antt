-- The temporary stack and the frames, by the activations of the step machine.
use Rattle.std.specs.Prelude.{ℕ, ◌+◌, ◌-◌, List, [], ◌∷◌, ◌++◌, length, map, drop, nat_lt, if◌then◌else◌, slice_index}
use Rattle.stack_text.specs.Values.{ValueOf}
use Rattle.piton_words.specs.{declared.word.Word.{Word}, declared.word.Word.TheVariants.{Nat}}
use Rattle.gypsy_syntax.specs.Programs.{Program, proc_at, shapes_of}
use Rattle.gypsy_semantics.specs.{Calls.{copied_out}, Machine.{Frame, Held, used}}
use Rattle.gypsy_predef.specs.Runs.{push_all}
use Rattle.gypsy_codegen.specs.WordsOf.{words_of_values, words_before, starts, local_shapes}

-- The stack, its top first: main's variables, and then each further activation's locals. y are the top activation's variables;
-- what stands where an actual of the activation below stands is the formal above it.
abbrev pub stack_of : Program → ℕ → List ValueOf → List Frame → List Word
stack_of q p y [] = push_all (words_of_values y) []
stack_of q p y (Held c x w xs cs ∷ fs) =
    push_all (words_of_values (drop (length (proc_at q p).formals) y)) (stack_of q c (copied_out xs y x) fs)

-- how many words stand below the locals of an activation that c calls
abbrev pub base_of : Program → ℕ → List Frame → ℕ
base_of q c fs = (used q c fs).temp

-- the index of the first word of variable b of the top activation, of procedure p
abbrev pub index_of : Program → ℕ → List Frame → ℕ → ℕ
index_of q p [] b = words_before (shapes_of (proc_at q p)) b
index_of q p (Held c x w xs cs ∷ fs) b =
    let k = length (proc_at q p).formals in
    if nat_lt b k then index_of q c fs (slice_index xs b) else base_of q c fs + words_before (local_shapes (proc_at q p)) (b - k)

-- the frame of the top activation: the indices of its variables
abbrev pub frame_of : Program → ℕ → List Frame → List ℕ
frame_of q p [] = starts 0 (shapes_of (proc_at q p))
frame_of q p (Held c x w xs cs ∷ fs) =
    starts (base_of q c fs) (local_shapes (proc_at q p)) ++ map (λ b. index_of q c fs b) xs

abbrev pub index_words : List ℕ → List Word
index_words is = map (λ n. Nat n) is
