-- Places of bytes in short texts, worked out.
use Rattle.std.proofs.Common.{◌≡◌, codes, refl}
use Rattle.dscript_parse.specs.Places.{place_of}

-- a newline is the last byte of its line
newline : place_of (codes "a\nb") 1 ≡ record { line = 1; column = 2 }
newline = refl

after_newline : place_of (codes "a\nb") 2 ≡ record { line = 2; column = 1 }
after_newline = refl

-- the end of a text, and whatever is past it
text_end : place_of (codes "a\nb") 3 ≡ record { line = 2; column = 2 }
text_end = refl

past_end : place_of (codes "a\nb") 9 ≡ record { line = 2; column = 2 }
past_end = refl

-- a carriage return is a byte as any other
carriage_return : place_of (codes "\r\n\r;") 3 ≡ record { line = 2; column = 2 }
carriage_return = refl
