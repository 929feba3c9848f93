use Rattle.std.proofs.Common.{◌≡◌, rules}
use Rattle.triangulate_run.specs.{B_POINTS, G_POINTS, L_POINTS, R_POINTS, X_POINTS}
use Rattle.triangulate_run.specs.Sheet.{points_of}
use Rattle.triangulate_run.proofs.Found.{all_listed, all_listed_sites}
use Rattle.triangulate_run.proofs.sheet.Sheet.points.Goals as goal

pub returns-in-G : goal.returns-in-G
unfolding points_of
returns-in-G c =
    let is : G_POINTS ≡ points_of c.args.self = rw c.in-G.is (search rules) in
    record {
      list = is;
      covered = all_listed _ _ is;
      sites = all_listed_sites _ _ is;
    }

pub returns-in-B : goal.returns-in-B
unfolding points_of
returns-in-B c =
    let is : B_POINTS ≡ points_of c.args.self = rw c.in-B.is (search rules) in
    record {
      list = is;
      covered = all_listed _ _ is;
      sites = all_listed_sites _ _ is;
    }

pub returns-in-R : goal.returns-in-R
unfolding points_of
returns-in-R c =
    let is : R_POINTS ≡ points_of c.args.self = rw c.in-R.is (search rules) in
    record {
      list = is;
      covered = all_listed _ _ is;
      sites = all_listed_sites _ _ is;
    }

pub returns-in-L : goal.returns-in-L
unfolding points_of
returns-in-L c =
    let is : L_POINTS ≡ points_of c.args.self = rw c.in-L.is (search rules) in
    record {
      list = is;
      covered = all_listed _ _ is;
      sites = all_listed_sites _ _ is;
    }

pub returns-in-X : goal.returns-in-X
unfolding points_of
returns-in-X c =
    let is : X_POINTS ≡ points_of c.args.self = rw c.in-X.is (search rules) in
    record {
      list = is;
      covered = all_listed _ _ is;
      sites = all_listed_sites _ _ is;
    }
