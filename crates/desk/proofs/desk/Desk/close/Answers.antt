use Rattle.std.proofs.Common.{refl}
use Rattle.desk.proofs.desk.Desk.close.Goals as goal

pub returns : goal.returns
returns g c = (
  _,
  _,
  c.settle_held.ensures,
  (
    _,
    _,
    c.settle_held-2.ensures,
    (
      _,
      _,
      c.settle_held-3.ensures,
      (
        _,
        _,
        c.settle_held-4.ensures,
        (
          _,
          _,
          c.settle_held-5.ensures,
          (
            _,
            _,
            c.settle_held-6.ensures,
            (
              _,
              _,
              c.settle_held-7.ensures,
              (
                _,
                _,
                c.settle_held-8.ensures,
                (
                  _,
                  _,
                  c.settle_held-9.ensures,
                  (_, _, c.settle_held-10.ensures, refl),
                ),
              ),
            ),
          ),
        ),
      ),
    ),
  ),
)
