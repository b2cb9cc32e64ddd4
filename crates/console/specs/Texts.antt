-- The one text of some files, and how a fault in it is told.
use Rattle.std.specs.Prelude.{◌≡◌, ℕ, ◌-◌, ◌<◌, ◌≤◌, Bool, true, cond, List, [], ◌∷◌, ◌++◌, map, length, take, vec_items, vec_len, string_bytes, codes, ◌==◌, Option, slice_get, slice_index, slice_index_or, count_by}
use Rattle.std.specs.Option.{option_copied}
use denote.Ref.{Bor}
use Rattle.packet.specs.Telling.{told, told_place}
use Rattle.packet.specs.declared.fault.Fault.{Fault}
use Rattle.packet.specs.declared.fault.Fault.TheVariants.{Reader, Builder, Host, Switch}
use Rattle.packet.specs.declared.fault.TextPlace.{TextPlace}
use Rattle.console.specs.declared.sources.File.{File}
use Rattle.console.specs.declared.sources.Sources.{Sources}

-- the last line has its end; a file without bytes wants none
abbrev pub ends_line : List ℕ → Bool
ends_line bytes = cond (length bytes == 0) true (slice_index bytes (length bytes - 1) == 10)

-- a file's bytes, with a line end after its last line where that has none
abbrev pub ended : List ℕ → List ℕ
ended bytes = cond (ends_line bytes) bytes (bytes ++ 10 ∷ [])

abbrev pub text_of : Sources → List ℕ
text_of s = vec_items s.text

-- the byte of the text at which each file begins
abbrev pub starts_of : Sources → List ℕ
starts_of s = map (λ f. f.start) (vec_items s.files)

-- the last file that begins at a byte or before, counted from 0; 0 where none does
pub record LastBegun (starts : List ℕ) (byte file : ℕ) : Type 0 where
  pub begun : 0 < file → (file < length starts) × (slice_index starts file ≤ byte)
  pub later : (k : ℕ) → file < k → k < length starts → byte < slice_index starts k

-- a file is the one at a place in the list, counted from 0; none past the last
abbrev pub FileAt : Sources → ℕ → Option (Bor File) → Type 0
FileAt s k file = option_copied file ≡ slice_get (vec_items s.files) k

abbrev pub line_ends : List ℕ → ℕ
line_ends bytes = count_by (λ b. b == 10) bytes

abbrev pub start_of : Sources → ℕ → ℕ
start_of s file = slice_index (starts_of s) file

-- a place counted in a file: less the lines and the bytes before the file
abbrev pub in_file : Sources → ℕ → TextPlace → TextPlace
in_file s file whole = record { line = whole.line - line_ends (take (start_of s file) (text_of s)); byte = whole.byte - start_of s file }

abbrev pub file_name : Sources → ℕ → List ℕ
file_name s file = slice_index_or (map (λ f. string_bytes f.name) (vec_items s.files)) file (codes "no file")

-- what follows a fault in a file: the file's name, and the place in the whole text unless that is the file's
abbrev pub beside : Sources → ℕ → TextPlace → List ℕ
beside s file whole =
    cond (vec_len s.files == 1)
    (codes " (" ++ (file_name s file ++ codes ")"))
    (codes " (" ++ (file_name s file ++ (codes "; " ++ (told_place whole ++ codes " of the whole text)"))))

-- a fault in one line: a reader's as told in the file that it is in
abbrev pub Tells : Sources → Fault → List ℕ → Type 0
Tells s (Reader cause whole) line = (file : ℕ) × LastBegun (starts_of s) whole.byte file × (line ≡ told (Reader cause (in_file s file whole)) ++ beside s file whole)
Tells s (Builder cause node) line = line ≡ told (Builder cause node)
Tells s (Host cause call) line = line ≡ told (Host cause call)
Tells s (Switch cause call) line = line ≡ told (Switch cause call)
