-- What each byte of a policy text is.
use Rattle.std.specs.Prelude.{ℕ, Bool, cond, ◌&&◌, ◌==◌, nat_le}
use Rattle.text.specs.declared.class.Class.{Class}
use Rattle.text.specs.declared.class.Class.TheVariants.{Opening, Closing, Space, LineEnd, Letter, Digit, Point, Stroke, Other}

abbrev pub between : ℕ → ℕ → ℕ → Bool
between low high b = nat_le low b && nat_le b high

-- ( ) space, line end, a to z, 0 to 9, point, stroke, or another
abbrev pub byte_class : ℕ → Class
byte_class b =
    cond (b == 40) Opening (cond (b == 41) Closing (cond (b == 32) Space (cond (b == 10) LineEnd
    (cond (between 97 122 b) Letter (cond (between 48 57 b) Digit (cond (b == 46) Point (cond (b == 47) Stroke Other)))))))
