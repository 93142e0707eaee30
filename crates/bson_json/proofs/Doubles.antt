-- Numbers of doubles, by whether they are finite.
use Rattle.std.proofs.Common.{◌≡◌, ℕ, List, true, false, Some, refl, codes}
use lib.Ieee.{is_nan}
use Rattle.std.specs.Float.{Float, binary64, float_is_finite}
use Rattle.std.specs.Float as floats
use Rattle.std.specs.Float.Ieee.{nan, inf, fin}
use Rattle.ryu.specs.Parse.{parse_float}
use Rattle.ryu.specs.Plain.{IsPlusNumber}
use Rattle.bson_json.specs.Json.{IsNumberText}

-- the text of a finite number
pub finite_text : (x : Float) (text : List ℕ) → float_is_finite x ≡ true → parse_float binary64 text ≡ Some x → IsPlusNumber 16 4 text
    → IsNumberText x text
unfolding float_is_finite
finite_text nan text h p q = cc h
finite_text (inf s) text h p q = cc h
finite_text (fin s m e) text h p q = (p, q)

-- the names of the others
pub nan_named : (x : Float) → is_nan x ≡ true → IsNumberText x (codes "NaN")
unfolding is_nan
nan_named nan h = refl
nan_named (inf s) h = cc h
nan_named (fin s m e) h = cc h

pub negative_named : (x : Float) → float_is_finite x ≡ false → is_nan x ≡ false → floats.is_sign_negative x ≡ true → IsNumberText x (codes "-Infinity")
unfolding float_is_finite is_nan floats.is_sign_negative
negative_named nan f n h = cc n
negative_named (inf true) f n h = refl
negative_named (inf false) f n h = cc h
negative_named (fin s m e) f n h = cc f

pub positive_named : (x : Float) → float_is_finite x ≡ false → is_nan x ≡ false → floats.is_sign_negative x ≡ false → IsNumberText x (codes "Infinity")
unfolding float_is_finite is_nan floats.is_sign_negative
positive_named nan f n h = cc n
positive_named (inf true) f n h = cc h
positive_named (inf false) f n h = refl
positive_named (fin s m e) f n h = cc f
