-- `decode_reference` meets its contract: a reference's character, which is shorter than the reference, or the `&` itself.
use mathlib.Core.Path.{refl}
use native.Mathlib.Omega.{arith}
use Rattle.utf8.proofs.Utf8Laws.{encode-short}
use Rattle.entities.proofs.Decoding.{stepped_to, stepped_literal}
use Rattle.entities.proofs.decode.decode_reference.Goals as goal

pub put_char-to-requires : goal.put_char-to-requires
put_char-to-requires c =
    let r = rw c.in-Some.is at c.reference.ensures in
    (r.char, omega (arith, encode-short c.in-Some.c, r.long, r.within))

pub returns-in-Some : goal.returns-in-Some
returns-in-Some c =
    stepped_to c.args.src.now _ _ c.args.out.now _ c.requires.0 c.requires.1 _ _ _ (rw c.in-Some.is at
    c.reference.ensures) c.put_char-to.ensures

pub returns-in-None : goal.returns-in-None
returns-in-None c =
    stepped_literal c.args.src.now _ _ c.args.out.now _ c.requires.0 c.requires.1 (rw c.in-None.is at
    c.reference.ensures) refl
