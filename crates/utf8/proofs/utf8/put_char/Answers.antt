-- `utf8::put_char` meets its contract: the stores of each range are the character's bytes there. Assumes nothing.
use mathlib.Core.Path.{refl, ap}
use native.Mathlib.Omega.{arith}
use native.Mathlib.Numerals.{add-one, add-two, add-three}
use lib.ListN.{length, length-set}
use Rattle.utf8.proofs.Utf8Laws.{encode-1, encode-2, encode-3, encode-4}
use Rattle.utf8.proofs.utf8.put_char.Goals as goal

pub bounds-out-at : goal.bounds-out-at
bounds-out-at c =
    omega (arith, ap length (encode-1 c.args.c (omega arith)))

pub returns-in-0-to-127 : goal.returns-in-0-to-127
returns-in-0-to-127 c =
    rw (encode-1 c.args.c (omega arith)) (record {
      next = refl;
      within = omega (
        arith,
        ap length (encode-1 c.args.c
            (omega arith)),
      );
      laid = refl;
    })

pub bounds-out-at-in-128-to-2047 : goal.bounds-out-at-in-128-to-2047
bounds-out-at-in-128-to-2047 c =
    omega (arith, ap length (encode-2 c.args.c (omega arith) (omega arith)))

pub bounds-out-at-in-128-to-2047-2 : goal.bounds-out-at-in-128-to-2047-2
bounds-out-at-in-128-to-2047-2 c =
    simp length-set (omega (arith, ap length (encode-2 c.args.c (omega arith) (omega arith))))

pub returns-in-128-to-2047 : goal.returns-in-128-to-2047
returns-in-128-to-2047 c =
    rw (encode-2 c.args.c (omega arith) (omega arith)) (record {
      next = refl;
      within = omega (
        arith,
        ap length
            (encode-2 c.args.c (omega arith) (omega arith)),
      );
      laid = simp add-one;
    })

pub bounds-out-at-in-2048-to-65535 : goal.bounds-out-at-in-2048-to-65535
bounds-out-at-in-2048-to-65535 c =
    omega (arith, ap length (encode-3 c.args.c (omega arith) (omega arith)))

pub bounds-out-at-in-2048-to-65535-2 : goal.bounds-out-at-in-2048-to-65535-2
bounds-out-at-in-2048-to-65535-2 c =
    simp length-set (omega (arith, ap length (encode-3 c.args.c (omega arith) (omega arith))))

pub bounds-out-at-in-2048-to-65535-3 : goal.bounds-out-at-in-2048-to-65535-3
bounds-out-at-in-2048-to-65535-3 c =
    simp length-set (omega (arith, ap length (encode-3 c.args.c (omega arith) (omega arith))))

pub returns-in-2048-to-65535 : goal.returns-in-2048-to-65535
returns-in-2048-to-65535 c =
    rw (encode-3 c.args.c (omega arith) (omega arith)) (record {
      next = refl;
      within = omega (
        arith,
        ap length (encode-3
            c.args.c (omega arith) (omega arith)),
      );
      laid = simp (add-one, add-two);
    })

pub bounds-out-at-in_default : goal.bounds-out-at-in_default
bounds-out-at-in_default c =
    omega (arith, ap length (encode-4 c.args.c (omega arith)))

pub bounds-out-at-in_default-2 : goal.bounds-out-at-in_default-2
bounds-out-at-in_default-2 c =
    simp length-set (omega (arith, ap length (encode-4 c.args.c (omega arith))))

pub bounds-out-at-in_default-3 : goal.bounds-out-at-in_default-3
bounds-out-at-in_default-3 c =
    simp length-set (omega (arith, ap length (encode-4 c.args.c (omega arith))))

pub bounds-out-at-in_default-4 : goal.bounds-out-at-in_default-4
bounds-out-at-in_default-4 c =
    simp length-set (omega (arith, ap length (encode-4 c.args.c (omega arith))))

pub returns-in_default : goal.returns-in_default
returns-in_default c =
    rw (encode-4 c.args.c (omega arith)) (record {
      next = refl;
      within = omega (
        arith,
        ap length (encode-4 c.args.c
            (omega arith)),
      );
      laid = simp (add-one, add-two, add-three);
    })
