mod BuildingBox
