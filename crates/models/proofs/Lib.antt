mod Triangles
