use Rattle.ufs_hand_laws.proofs.Drawn.{draw_sound}
use Rattle.ufs_hand_laws.proofs.laws.an_entry_is_drawn.Goals as goal

pub returns : goal.returns
returns g c k word views i v f l known o at m live =
    draw_sound (record {
      keeps = c.a_request_keeps_the_tree.ensures;
      local = c.a_request_is_local.ensures;
      makes = c.a_request_makes_one_file_at_most.ensures;
      S = g.P.Promise.shows;
      k = k;
      word = word;
      views = views;
      i = i;
      v = v;
      f = f;
      l = l;
      known = known;
      live = live;
      o = o;
      at = at;
      m = m;
    })
