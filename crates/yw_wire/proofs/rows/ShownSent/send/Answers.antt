use Rattle.std.proofs.lemmas.Result.{on_ok_weaker}
use Rattle.yw_wire.proofs.rows.ShownSent.send.Goals as goal

-- each member is sent in turn
pub returns : goal.returns
returns g c =
    let w = g.S.Serializer.written in
    on_ok_weaker c.end_map.result (λ ends. (
      w c.begin_map.new.self,
      c.in_ok-begin_map.ensures,
      (
        w c.key.new.self,
        w c.send.new.out,
        c.in_ok-key.ensures,
        c.in_ok-send.ensures,
        (
          w c.key-2.new.self,
          w c.send-2.new.out,
          c.in_ok-key-2.ensures,
          c.in_ok-send-2.ensures,
          (
            w c.key-3.new.self,
            w c.send-3.new.out,
            c.in_ok-key-3.ensures,
            c.in_ok-send-3.ensures,
            (
              w c.key-4.new.self,
              w c.send-4.new.out,
              c.in_ok-key-4.ensures,
              c.in_ok-send-4.ensures,
              (
                w c.key-5.new.self,
                w c.send-5.new.out,
                c.in_ok-key-5.ensures,
                c.in_ok-send-5.ensures,
                (w c.key-6.new.self, w c.send-6.new.out, c.in_ok-key-6.ensures, c.in_ok-send-6.ensures, ends),
              ),
            ),
          ),
        ),
      ),
    )) c.end_map.ensures
