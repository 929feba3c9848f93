use Rattle.mesh_files.proofs.geojson.GeoState.take_more.Goals as goal

pub returns-in-Number : goal.returns-in-Number
returns-in-Number c = rw c.in-Number.is c.take_height.ensures

pub returns-in-EndArray : goal.returns-in-EndArray
returns-in-EndArray c = rw c.in-EndArray.is c.end_position.ensures
